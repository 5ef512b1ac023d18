-- What an event does to what the law says of connections.
use Rattle.std.proofs.Common.{◌≡◌, refl, sym, ap, ◌∙◌, ℕ, Bool, true, false, ◌||◌, List, ◌∷◌, Option, Some, None, is_some, option_map, unwrap_or, eqb-true, if◌then◌else◌, ◌==◌}
use Rattle.std.proofs.lemmas.Bool.{eq-eqb}
use Rattle.amqp_perf.specs.Meaning.{OpenFields}
use Rattle.flow_counts.specs.declared.profile.TheConstants.{MIN_MAX_FRAME_SIZE}
use Rattle.trace_events.specs.Words.{or_else}
use Rattle.trace_events.specs.Event.{Event, is_opened, is_lost, is_broken, is_out}
use Rattle.trace_events.specs.Said.{in_open, is_in_close, is_out_close}
use Rattle.trace_events.specs.Connection.{has_event, is_final, bounded_limit, first_open, frame_limit, has_in_open}
use Rattle.trace_events.proofs.FirstOpens.{has_in_open-first}
use Rattle.trace_events.proofs.OverConnections.{has_event-own, has_event-other}
use Rattle.state_tables.specs.Connections.{connection_at, seen_next}
use Rattle.state_tables.specs.declared.connection.ConnectionSummary.{ConnectionSummary}

abbrev made : Bool → Bool → Bool → Bool → Bool → Bool → ℕ → ConnectionSummary
made a b c d e f n = record { is_over = a; was_opened = b; was_finished = c; was_stopped = d; has_out_frame = e; has_in_open = f; frame_limit = n }

pub made-same : (a a' b b' c c' d d' e e' f f' : Bool) (n n' : ℕ) → a ≡ a' → b ≡ b' → c ≡ c' → d ≡ d' → e ≡ e' → f ≡ f' → n ≡ n'
    → made a b c d e f n ≡ made a' b' c' d' e' f' n'
made-same a a' b b' c c' d d' e e' f f' n n' p q r s t u v = rw (p, q, r, s, t, u, v) refl

-- ---- an event of the connection

has-own : (test : Event → Bool) (e : Event) (past : List Event) → has_event e.connection test (e ∷ past) ≡ (test e || has_event e.connection test past)
has-own test e past = has_event-own e.connection test e past (eq-eqb e.connection e.connection refl)

or-either : (a b c : Bool) → ((a || b) || c) ≡ (a || b || c)
or-either true b c = refl
or-either false b c = refl

limit-by : (own : Bool) (new earlier : Option OpenFields) (has : Bool) → has ≡ is_some earlier → own ≡ true
    → unwrap_or (option_map bounded_limit (or_else earlier (if own then new else None))) MIN_MAX_FRAME_SIZE
    ≡ (if has then unwrap_or (option_map bounded_limit earlier) MIN_MAX_FRAME_SIZE
    else unwrap_or (option_map bounded_limit new) (unwrap_or (option_map bounded_limit earlier) MIN_MAX_FRAME_SIZE))
limit-by true new None true is own = absurd cc
limit-by true None None false is own = refl
limit-by true (Some fields) None false is own = refl
limit-by true new (Some first) true is own = refl
limit-by true new (Some first) false is own = absurd cc
limit-by false new earlier has is own = absurd cc

connection-next : (e : Event) (past : List Event) → connection_at e.connection (e ∷ past) ≡ seen_next e (connection_at e.connection past)
connection-next e past =
    let c = e.connection in
    made-same _ _ _ _ _ _ _ _ _ _ _ _ _ _ (has-own (λ e. is_final e.moment) e past) (has-own (λ e. is_opened e.moment) e past)
    (has-own (λ e. is_lost e.moment || is_out_close e) e past ∙ or-either (is_lost e.moment) (is_out_close e) _)
    (has-own (λ e. is_broken e.moment || is_in_close e) e past ∙ or-either (is_broken e.moment) (is_in_close e) _)
    (has-own (λ e. is_out e.moment) e past) (has-own (λ e. is_some (in_open e)) e past)
    (limit-by (c == c) (in_open e) (first_open c past) (has_in_open c past) (has_in_open-first c past) (eq-eqb c c refl))

-- ---- one of another connection

or-none : (o : Option OpenFields) → or_else o None ≡ o
or-none None = refl
or-none (Some fields) = refl

limit-other : (c : ℕ) (e : Event) (past : List Event) → (e.connection == c) ≡ false → frame_limit c (e ∷ past) ≡ frame_limit c past
limit-other c e past other =
    ap (λ b. unwrap_or (option_map bounded_limit (or_else (first_open c past) (if b then in_open e else None))) MIN_MAX_FRAME_SIZE) other
    ∙ ap (λ o. unwrap_or (option_map bounded_limit o) MIN_MAX_FRAME_SIZE) (or-none (first_open c past))

connection-other : (c : ℕ) (e : Event) (past : List Event) → (e.connection == c) ≡ false → connection_at c (e ∷ past) ≡ connection_at c past
connection-other c e past other =
    made-same _ _ _ _ _ _ _ _ _ _ _ _ _ _ (has_event-other c (λ e. is_final e.moment) e past other) (has_event-other c (λ e. is_opened e.moment) e past other)
    (has_event-other c (λ e. is_lost e.moment || is_out_close e) e past other) (has_event-other c (λ e. is_broken e.moment || is_in_close e) e past other)
    (has_event-other c (λ e. is_out e.moment) e past other) (has_event-other c (λ e. is_some (in_open e)) e past other) (limit-other c e past other)

-- ---- all of them

-- an event's connection has come to its next value, and the others are as they were
pub next_connection : (e : Event) (past : List Event) (before : ℕ → ConnectionSummary) → ((c : ℕ) → before c ≡ connection_at c past)
    → (c : ℕ) → (if e.connection == c then seen_next e (before e.connection) else before c) ≡ connection_at c (e ∷ past)
next_connection e past before known c = by (e.connection == c) refl
  where
    by : (b : Bool) → (e.connection == c) ≡ b → (if b then seen_next e (before e.connection) else before c) ≡ connection_at c (e ∷ past)
    by true same =
        ap (seen_next e) (known e.connection)
        ∙ (sym (connection-next e past) ∙ ap (λ (n : ℕ). connection_at n (e ∷ past)) (eqb-true e.connection c same))
    by false other = known c ∙ sym (connection-other c e past other)
