mod Links
mod Sessions
mod Channels
mod Examples
