-- A connection of which nothing more is to come leaves its entry: the table says the same.
use Rattle.std.proofs.Common.{◌≡◌, refl, sym, ap, ◌∙◌, ℕ, Bool, true, false, ◌&&◌, cond, Option, Some, None, option_map, option_and_then, unwrap_or, if◌then◌else◌, ◌==◌, eqb-true}
use Rattle.std.specs.Prelude.{nat_eq}
use Rattle.indexmap.specs.IndexMap.{get}
use Rattle.number_runs.specs.Runs.{value_in}
use Rattle.state_tables.specs.Connections.{AreSame, IsDone, fresh, session_on, unanswered_on}
use Rattle.state_tables.specs.Unanswered.{nothing}
use Rattle.state_tables.specs.declared.connection.Connection.{Connection}
use Rattle.state_tables.specs.declared.connection.ConnectionSummary.{ConnectionSummary}
use Rattle.state_tables.specs.declared.connections.Connections.{Connections}

-- what is said of a connection by its entry, and its run
abbrev said : Option Connection → Option ConnectionSummary → ConnectionSummary
said entry run = unwrap_or (option_map (λ (x : Connection). x.seen) entry) (unwrap_or run fresh)

module _ (old new : Connections) (c : ℕ) (seen : ConnectionSummary) (is_put : Bool)
    (put : (n : ℕ) → value_in new.over n ≡ (if is_put && (c == n) then Some seen else value_in old.over n)) where
  elsewhere : (n : ℕ) → (c == n) ≡ false → value_in new.over n ≡ value_in old.over n
  elsewhere n other = put n ∙ by is_put
    where
      by : (b : Bool) → (if b && (c == n) then Some seen else value_in old.over n) ≡ value_in old.over n
      by true = ap (λ a. if a then Some seen else value_in old.over n) other
      by false = refl

  own : (n : ℕ) (o : Option Connection) → (c == n) ≡ true → get nat_eq old.entries c ≡ o → get nat_eq old.entries n ≡ o
  own n o same is = ap (get nat_eq old.entries) (sym (eqb-true c n same)) ∙ is

  -- the entry stays
  pub stays : IsDone seen (get nat_eq old.entries c) → new.entries ≡ old.entries → AreSame old new
  stays done kept = record {
    seen = λ n. same n (c == n) refl (get nat_eq old.entries c) refl done;
    sessions = λ n channel. ap (λ m. option_and_then (λ (x : Connection). session_on x channel) (get nat_eq m n)) kept;
    unanswered = λ n channel. ap (λ m. unwrap_or (option_map (λ (x : Connection). unanswered_on x channel) (get nat_eq m n)) nothing) kept;
  }
    where
      same : (n : ℕ) (b : Bool) → (c == n) ≡ b → (o : Option Connection) → get nat_eq old.entries c ≡ o → IsDone seen o
          → said (get nat_eq new.entries n) (value_in new.over n) ≡ said (get nat_eq old.entries n) (value_in old.over n)
      same n b at None is done = absurd done
      same n true at (Some x) is done =
          ap (λ m. said (get nat_eq m n) (value_in new.over n)) kept
          ∙ (ap (λ o. said o (value_in new.over n)) (own n (Some x) at is) ∙ sym (ap (λ o. said o (value_in old.over n)) (own n (Some x) at is)))
      same n false at (Some x) is done =
          ap (λ m. said (get nat_eq m n) (value_in new.over n)) kept ∙ ap (said (get nat_eq old.entries n)) (elsewhere n at)

  -- it goes
  module _ (left : (n : ℕ) → get nat_eq new.entries n ≡ cond (nat_eq c n) None (get nat_eq old.entries n)) (over : value_in new.over c ≡ Some seen) where
    gone : (n : ℕ) → (c == n) ≡ true → get nat_eq new.entries n ≡ None
    gone n at = left n ∙ ap (λ b. cond b None (get nat_eq old.entries n)) at

    kept : (n : ℕ) → (c == n) ≡ false → get nat_eq new.entries n ≡ get nat_eq old.entries n
    kept n at = left n ∙ ap (λ b. cond b None (get nat_eq old.entries n)) at

    over-own : (n : ℕ) → (c == n) ≡ true → value_in new.over n ≡ Some seen
    over-own n at = ap (value_in new.over) (sym (eqb-true c n at)) ∙ over

    -- a reading of entries that says of this one what it says of none
    module _ {A : Type 0} (read : Option Connection → A) where
      read-same : (n : ℕ) → ((x : Connection) → x.channels ≡ None → read (Some x) ≡ read None) → (b : Bool) → (c == n) ≡ b → (o : Option Connection) → get nat_eq old.entries c ≡ o → IsDone seen o
          → read (get nat_eq new.entries n) ≡ read (get nat_eq old.entries n)
      read-same n bare b at None is done = absurd done
      read-same n bare true at (Some x) is done = ap read (gone n at) ∙ sym (ap read (own n (Some x) at is) ∙ bare x done.1)
      read-same n bare false at (Some x) is done = ap read (kept n at)

    seen-same : (n : ℕ) (b : Bool) → (c == n) ≡ b → (o : Option Connection) → get nat_eq old.entries c ≡ o → IsDone seen o
        → said (get nat_eq new.entries n) (value_in new.over n) ≡ said (get nat_eq old.entries n) (value_in old.over n)
    seen-same n b at None is done = absurd done
    seen-same n true at (Some x) is done =
        ap (λ o. said o (value_in new.over n)) (gone n at)
        ∙ (ap (said None) (over-own n at) ∙ (sym done.0 ∙ sym (ap (λ o. said o (value_in old.over n)) (own n (Some x) at is))))
    seen-same n false at (Some x) is done = ap (λ o. said o (value_in new.over n)) (kept n at) ∙ ap (said (get nat_eq old.entries n)) (elsewhere n at)

    no-session : (channel : ℕ) (x : Connection) → x.channels ≡ None → session_on x channel ≡ None
    no-session channel x is = ap (option_and_then (λ b. get nat_eq b.value.sessions channel)) is

    no-answer : (channel : ℕ) (x : Connection) → x.channels ≡ None → unanswered_on x channel ≡ nothing
    no-answer channel x is = ap (λ o. unwrap_or (option_map (λ b. unwrap_or (get nat_eq b.value.unanswered channel) nothing) o) nothing) is

    pub goes : IsDone seen (get nat_eq old.entries c) → AreSame old new
    goes done = record {
      seen = λ n. seen-same n (c == n) refl (get nat_eq old.entries c) refl done;
      sessions = λ n channel. read-same (option_and_then (λ (x : Connection). session_on x channel)) n (no-session channel) (c == n) refl (get nat_eq old.entries c) refl done;
      unanswered = λ n channel.
          read-same (λ o. unwrap_or (option_map (λ (x : Connection). unanswered_on x channel) o) nothing) n (no-answer channel) (c == n) refl (get nat_eq old.entries c) refl done;
    }
