mod Places
mod Putting
mod Alone
