-- What a page shows.
use Rattle.std.specs.Prelude.{ℕ, List}
use Rattle.std.specs.String.{string_bytes}
use Rattle.capture_words.specs.declared.page.Page.{Page}

-- the text of a page
abbrev pub text_of : Page → List ℕ
text_of page = string_bytes page.text
