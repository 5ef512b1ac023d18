-- A turn of a connection, from what its parts gave.
use Rattle.std.proofs.Common.{◌≡◌, ℕ, Bool, List, [], ◌++◌, All, sym, ap, ◌∙◌, subst}
use Rattle.capture_form.specs.declared.records.Record.{Record}
use Rattle.capture_form.specs.declared.records.What.{What}
use Rattle.conn_engine.specs.Pausing.{Paused, paused, resumed}
use Rattle.conn_engine.specs.Serving.{Connection}
use Rattle.conn_engine.specs.declared.serving.Status.{Status}
use Rattle.conn_engine.specs.Served.{IsOpen, LineHolds, NothingNoted}
use Rattle.daemon_server.specs.Desks.{IsEntry, Laid, is_empty, told_by}
use Rattle.daemon_server.specs.Turns.{HasServed}

module _ {G : Type 0} (Delivered Took : G → List ℕ → Type 0) where
  -- an engine that goes on with a desk is open as it was
  pub open_at_desk : (items : List What) (frames due : List (List ℕ)) (connection : ℕ) (gate : G) (engine : Paused) (desk : Laid) (e : Connection)
      → desk ≡ record { connection = connection; items = items; frames = frames; inbox = []; due = due } → e ≡ resumed engine desk.items desk.frames (is_empty desk.due)
      → IsOpen Delivered Took gate (resumed engine items frames (is_empty due)) NothingNoted → IsOpen Delivered Took gate e NothingNoted
  open_at_desk items frames due connection gate engine desk e laid goes open_so =
      subst (λ (c : Connection). IsOpen Delivered Took gate c NothingNoted) (sym (goes ∙ ap (λ (d : Laid). resumed engine d.items d.frames (is_empty d.due)) laid)) open_so

  -- what is left of it behind the turn
  pub left_at_desk : (ended : G → Bool) (items : List What) (frames due : List (List ℕ)) (connection : ℕ) (status : Status) (gate : G) (e : Connection) (engine : Paused) (desk : Laid)
      (inbox : List Record) (outbox : List (List ℕ)) → e.number ≡ connection → LineHolds Delivered Took ended status gate e NothingNoted → engine ≡ paused e → desk.connection ≡ e.number
      → desk.items ≡ e.items → desk.frames ≡ e.frames → inbox ≡ desk.inbox → outbox ≡ desk.due → desk.items ≡ items ++ told_by desk.inbox → desk.frames ++ desk.due ≡ frames ++ due
      → All (IsEntry desk.connection) desk.inbox → HasServed Delivered Took ended items frames due connection status gate engine inbox outbox
  left_at_desk ended items frames due connection status gate e engine desk inbox outbox number holds is own same_items same_frames inbox_is outbox_is taken given entries = record {
    number = ap (λ (p : Paused). p.number) is ∙ number;
    items_now = e.items;
    frames_now = e.frames;
    is_idle = e.is_idle;
    holds = subst (λ (p : Paused). LineHolds Delivered Took ended status gate (resumed p e.items e.frames e.is_idle) NothingNoted) (sym is) holds;
    taken = sym same_items ∙ (taken ∙ ap (λ xs. items ++ told_by xs) (sym inbox_is));
    given = ap (λ xs. xs ++ outbox) (sym same_frames) ∙ (ap (λ xs. desk.frames ++ xs) outbox_is ∙ given);
    entries = subst (λ n. All (IsEntry n) inbox) (own ∙ number) (subst (All (IsEntry desk.connection)) (sym inbox_is) entries);
  }
