-- Known bytes that are written one text after another.
use Rattle.std.proofs.Common.{ℕ, List, [], ◌++◌, Option, Some, None, sym, ap, ◌∙◌, append_assoc, append-nil}
use Rattle.std.specs.Io.KnownBytes.{Appends}
use Rattle.capture_words.specs.Shown.{AppendsSome}

pub appends_then : (u v w : Option (List ℕ)) (a b : List ℕ) → Appends u v a → Appends v w b → Appends u w (a ++ b)
appends_then None v w a b x y = tt
appends_then (Some xs) None w a b x y = absurd x
appends_then (Some xs) (Some ys) None a b x y = y
appends_then (Some xs) (Some ys) (Some zs) a b x y = y ∙ ap (λ (t : List ℕ). t ++ b) x ∙ append_assoc xs a b

pub appends_nothing : (u : Option (List ℕ)) → Appends u u []
appends_nothing None = tt
appends_nothing (Some xs) = sym (append-nil xs)

pub appends_some : (u : Option (List ℕ)) → AppendsSome u u
appends_some u = ([], appends_nothing u)

pub some_then : (u v w : Option (List ℕ)) (b : List ℕ) → AppendsSome u v → Appends v w b → AppendsSome u w
some_then u v w b x y = (x.0 ++ b, appends_then u v w x.0 b x.1 y)

pub some_some : (u v w : Option (List ℕ)) → AppendsSome u v → AppendsSome v w → AppendsSome u w
some_some u v w x y = (x.0 ++ y.0, appends_then u v w x.0 y.0 x.1 y.1)
