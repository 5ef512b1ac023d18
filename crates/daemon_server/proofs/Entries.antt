-- Records of items in an inbox.
use Rattle.std.proofs.Common.{◌≡◌, refl, sym, subst, ℕ, false, List, [], ◌∷◌, ◌++◌, All, arith}
use Rattle.std.proofs.lemmas.List.Elements.{All-cons, All-append}
use Rattle.capture_form.specs.declared.records.Record.{Record}
use Rattle.capture_form.specs.Text.{IsRecord}
use Rattle.route_items.specs.declared.item.Item.{Item}
use Rattle.route_items.specs.declared.item.Item.TheVariants.{Opened, In, Broken, Lost}
use Rattle.route_items.specs.Inputs.{is_output}
use Rattle.route_items.specs.Items.{connection_of, record_of, what_of}
use Rattle.daemon_server.specs.Desks.{IsEntry, IsLaid}

-- no item is a frame that was written
no-output : (item : Item) → is_output (what_of item) ≡ false
no-output (Opened connection) = refl
no-output (In connection frame) = refl
no-output (Broken connection) = refl
no-output (Lost connection) = refl

entry-of : (connection : ℕ) (item : Item) → connection_of item ≡ connection → IsRecord (record_of item) → IsEntry connection (record_of item)
entry-of connection item own bounds = record { own = own; input = no-output item; bare = refl; bounds = bounds }

-- the record of one more lies behind the others
pub one-more : (due : List (List ℕ)) (connection : ℕ) (inbox later : List Record) (outbox : List (List ℕ)) (given : List (List ℕ × Unit {0})) (item : Item) → IsLaid due connection inbox outbox given
    → later ≡ inbox ++ record_of item ∷ [] → connection_of item ≡ connection → IsRecord (record_of item) → IsLaid due connection later outbox given
one-more due connection inbox later outbox given item lies is own bounds = record {
  entries =
      subst (All (IsEntry connection)) (sym is)
      (All-append (IsEntry connection) inbox (record_of item ∷ []) lies.entries (All-cons (IsEntry connection) (record_of item) [] (entry-of connection item own bounds) none));
  frames = lies.frames;
}
  where
    none : All (IsEntry connection) []
    none = λ k d lt. absurd (omega (arith, lt))

-- none more
pub none-more : (due : List (List ℕ)) (connection : ℕ) (inbox later : List Record) (outbox : List (List ℕ)) (given : List (List ℕ × Unit {0})) → IsLaid due connection inbox outbox given
    → later ≡ inbox → IsLaid due connection later outbox given
none-more due connection inbox later outbox given lies is = record { entries = subst (All (IsEntry connection)) (sym is) lies.entries; frames = lies.frames }
