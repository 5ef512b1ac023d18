-- A line, behind what is done with it.
use Rattle.std.proofs.Common.{◌≡◌, refl, sym, ap, ◌∙◌, subst, ℕ, ◌+◌, ◌-◌, Bool, true, List, [], ◌∷◌, ◌++◌, All, Some, length, take, append_assoc, append-nil, arith}
use Rattle.std.proofs.lemmas.List.{length-append}
use Rattle.std.proofs.lemmas.List.Elements.{All-nil}
use Rattle.capture_form.specs.declared.records.Record.{Record}
use Rattle.capture_form.specs.declared.records.What.{What}
use Rattle.conn_engine.specs.Pausing.{Paused, resumed}
use Rattle.conn_engine.specs.declared.serving.Status.{Status}
use Rattle.conn_engine.specs.declared.serving.Status.TheVariants.{Open}
use Rattle.conn_engine.specs.Served.{IsOpen, LineHolds, NothingNoted}
use Rattle.daemon_server.specs.Desks.{IsEntry, is_empty, told_by}
use Rattle.daemon_server.specs.Turns.{HasServed}
use Rattle.daemon_server.specs.declared.line.Line.{Line}
use Rattle.daemon_server.specs.Lines.{IsLine, front_of}

-- what stands in front of the last ones
front-is : (front last all : List (List ℕ)) → front ++ last ≡ all → front_of all last ≡ front
front-is front last all is =
    ap (λ (xs : List (List ℕ)). take (length xs - length last) xs) (sym is)
    ∙ (ap (λ n. take n (front ++ last)) (count (length (front ++ last)) (length front) (length last) (length-append front last)) ∙ all-of front last)
  where
    count : (n a b : ℕ) → n ≡ a + b → n - b ≡ a
    count n a b eq = omega (arith, eq)

    all-of : (xs ys : List (List ℕ)) → take (length xs) (xs ++ ys) ≡ xs
    all-of [] ys = refl
    all-of (x ∷ xs) ys = ap (λ (zs : List (List ℕ)). x ∷ zs) (all-of xs ys)

module _ {G : Type 0} (Delivered Took : G → List ℕ → Type 0) (ended : G → Bool) where
  -- nothing of an open one depends on whether its port is idle
  open-idle : (gate : G) (engine : Paused) (items : List What) (given : List (List ℕ)) (was is : Bool)
      → IsOpen Delivered Took gate (resumed engine items given was) NothingNoted → IsOpen Delivered Took gate (resumed engine items given is) NothingNoted
  open-idle gate engine items given was is h = record {
    octets = h.octets;
    taken = h.taken;
    delivered = h.delivered;
    took = h.took;
    noted = record {
      serving = let s = h.noted.serving in record {
        answers = s.answers;
        stream = s.stream;
        reads = s.reads;
        closes = s.closes;
        put = s.put;
        given = s.given;
        ticks = s.ticks;
        is_put = s.is_put;
        time_out = s.time_out;
        behind = s.behind;
        over = s.over;
      };
      stands = h.noted.stands;
    };
  }

  -- the engine of a line goes on, where its inbox is empty
  pub open-beside : (taken : List What) (written : List (List ℕ)) (line : Line G) (engine : Paused) → IsLine Delivered Took ended taken written line → line.status ≡ Open → line.inbox.items ≡ []
      → line.engine ≡ Some engine → IsOpen Delivered Took line.gate (resumed engine taken (front_of written line.outbox.items) (is_empty line.outbox.items)) NothingNoted
  open-beside taken written line engine holds is_open empty there =
      let same : holds.engine ≡ engine = some (sym holds.is_there ∙ there) in
      let items : taken ++ told_by line.inbox.items ≡ taken = ap (λ (xs : List Record). taken ++ told_by xs) empty ∙ append-nil taken in
      let front : front_of written line.outbox.items ≡ holds.given = front-is holds.given line.outbox.items written holds.due in
      let first : IsOpen Delivered Took line.gate (resumed holds.engine (taken ++ told_by line.inbox.items) holds.given holds.is_idle) NothingNoted =
      subst (λ (s : Status). LineHolds Delivered Took ended s line.gate (resumed holds.engine (taken ++ told_by line.inbox.items) holds.given holds.is_idle) NothingNoted) is_open holds.holds in
      let second = subst (λ (xs : List What). IsOpen Delivered Took line.gate (resumed holds.engine xs holds.given holds.is_idle) NothingNoted) items first in
      let third = subst (λ (p : Paused). IsOpen Delivered Took line.gate (resumed p taken holds.given holds.is_idle) NothingNoted) same second in
      let fourth = subst (λ (xs : List (List ℕ)). IsOpen Delivered Took line.gate (resumed engine taken xs holds.is_idle) NothingNoted) (sym front) third in
      open-idle line.gate engine taken (front_of written line.outbox.items) holds.is_idle (is_empty line.outbox.items) fourth
    where
      some : {a b : Paused} → Some a ≡ Some b → a ≡ b
      some is = cc

  -- what a turn leaves is a line
  pub line-turned : (taken : List What) (written due : List (List ℕ)) (line later : Line G) (gate : G) (status : Status) (engine : Paused) (inbox : List Record) (outbox : List (List ℕ))
      → HasServed Delivered Took ended taken (front_of written due) due line.number status gate engine inbox outbox → front_of written due ++ due ≡ written → later.gate ≡ gate
      → later.engine ≡ Some engine → later.inbox.items ≡ inbox → later.outbox.items ≡ outbox → later.status ≡ status → later.number ≡ line.number → IsLine Delivered Took ended taken written later
  line-turned taken written due line later gate status engine inbox outbox served whole gate_is there in_is out_is status_is number = record {
    engine = engine;
    is_there = there;
    own = served.number ∙ sym number;
    given = served.frames_now;
    is_idle = served.is_idle;
    holds =
        subst (λ (x : G). LineHolds Delivered Took ended later.status x (resumed engine (taken ++ told_by later.inbox.items) served.frames_now served.is_idle) NothingNoted) (sym gate_is)
        (subst (λ (s : Status). LineHolds Delivered Took ended s gate (resumed engine (taken ++ told_by later.inbox.items) served.frames_now served.is_idle) NothingNoted) (sym status_is)
        (subst (λ (xs : List What). LineHolds Delivered Took ended status gate (resumed engine xs served.frames_now served.is_idle) NothingNoted)
        (served.taken ∙ ap (λ (xs : List Record). taken ++ told_by xs) (sym in_is)) served.holds));
    due = ap (λ (xs : List (List ℕ)). served.frames_now ++ xs) out_is ∙ (served.given ∙ whole);
    entries = subst (λ n. All (IsEntry n) later.inbox.items) (sym number) (subst (All (IsEntry line.number)) (sym in_is) served.entries);
  }

  -- what is due stands behind what was given
  pub line-front : (taken : List What) (written : List (List ℕ)) (line : Line G) → IsLine Delivered Took ended taken written line → front_of written line.outbox.items ++ line.outbox.items ≡ written
  line-front taken written line holds = ap (λ (xs : List (List ℕ)). xs ++ line.outbox.items) (front-is holds.given line.outbox.items written holds.due) ∙ holds.due

  -- the core took what came
  pub line-stepped : (taken : List What) (written : List (List ℕ)) (line : Line G) (inbox : List Record) (later : Line G) → IsLine Delivered Took ended taken written line → inbox ≡ []
      → later.engine ≡ line.engine → later.gate ≡ line.gate → later.status ≡ line.status → later.number ≡ line.number → later.outbox.items ≡ line.outbox.items → later.inbox.items ≡ inbox
      → IsLine Delivered Took ended (taken ++ told_by line.inbox.items) written later
  line-stepped taken written line inbox later holds none engine gate status number outbox in_is = record {
    engine = holds.engine;
    is_there = engine ∙ holds.is_there;
    own = holds.own ∙ sym number;
    given = holds.given;
    is_idle = holds.is_idle;
    holds =
        rw (gate, status, in_is, none, append-nil (taken ++ told_by line.inbox.items)) holds.holds;
    due = ap (λ (xs : List (List ℕ)). holds.given ++ xs) outbox ∙ holds.due;
    entries = subst (All (IsEntry later.number)) (sym (in_is ∙ none)) (All-nil (IsEntry later.number));
  }

  -- the core wrote one more frame
  pub line-laid : (taken : List What) (written : List (List ℕ)) (line later : Line G) (frame : List ℕ) → IsLine Delivered Took ended taken written line
      → later.outbox.items ≡ line.outbox.items ++ frame ∷ [] → later ≡ record line { outbox = later.outbox } → IsLine Delivered Took ended taken (written ++ frame ∷ []) later
  line-laid taken written line later frame holds more is = rw is (record {
    engine = holds.engine;
    is_there = holds.is_there;
    own = holds.own;
    given = holds.given;
    is_idle = holds.is_idle;
    holds = holds.holds;
    due = ap (λ (xs : List (List ℕ)). holds.given ++ xs) more ∙ (sym (append_assoc holds.given line.outbox.items (frame ∷ [])) ∙ ap (λ (xs : List (List ℕ)). xs ++ frame ∷ []) holds.due);
    entries = holds.entries;
  })

  -- a connection that came
  pub line-new : (line : Line G) (engine : Paused) → line.engine ≡ Some engine → engine.number ≡ line.number → line.status ≡ Open → line.inbox.items ≡ [] → line.outbox.items ≡ []
      → IsOpen Delivered Took line.gate (resumed engine [] [] true) NothingNoted → IsLine Delivered Took ended [] [] line
  line-new line engine there own status inbox outbox fresh = record {
    engine = engine;
    is_there = there;
    own = own;
    given = [];
    is_idle = true;
    holds =
        subst (λ (s : Status). LineHolds Delivered Took ended s line.gate (resumed engine ([] ++ told_by line.inbox.items) [] true) NothingNoted) (sym status)
        (subst (λ (xs : List Record). IsOpen Delivered Took line.gate (resumed engine ([] ++ told_by xs) [] true) NothingNoted) (sym inbox) fresh);
    due = outbox;
    entries = subst (All (IsEntry line.number)) (sym inbox) (All-nil (IsEntry line.number));
  }
