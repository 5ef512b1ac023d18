-- What an event says nothing of stays as it was, and what it says moves the entries of its session and its connection.
use Rattle.std.proofs.Common.{◌≡◌, refl, sym, ap, ◌∙◌, ℕ, Bool, true, false, ◌&&◌, ◌||◌, Option, Some, None, is_some, option_and_then, if◌then◌else◌, ◌==◌, eqb-true}
use Rattle.amqp_perf.specs.Meaning.{Meaning, AnOpen, ABegin, AnAttach, AFlow, ATransfer, ADisposition, ADetach, AnEnd, AClose}
use Rattle.trace_events.specs.Words.{is_number}
use Rattle.trace_events.specs.Frame.{Spoken, spoken_in}
use Rattle.trace_events.specs.Event.{Event, Moment, Opened, In, Out, Lost, Broken, channel_of, spoken_of}
use Rattle.trace_events.specs.declared.session.Session.{Session}
use Rattle.trace_events.specs.Connection.{is_final}
use Rattle.trace_events.specs.Said.{handle_in, out_begin, is_in_end, is_out_end}
use Rattle.trace_events.proofs.EventKinds.{in_said, out_said}
use Rattle.state_tables.specs.Links.{Counted, Asked, HandleState, attaches_in, attaches_out, detaches_in, detaches_out, handle_about, handle_of, nothing, says_of_handle, standing_behind, standing_here, standing_next}
use Rattle.state_tables.specs.LinkTables.{AreMovedOn, IsMoved, IsSame, standing_of, standing_on}
use Rattle.state_tables.specs.declared.handles.Handles.{Handles}
use Rattle.state_tables.specs.declared.channels.Channels.{Channels}
use Rattle.state_tables.specs.EndedLinks.{ends_channel}
use Rattle.state_counts.specs.LinkCounts.{named_handle}
use Rattle.state_tables.proofs.EndedSteps.{about, meant, of_attach, of_detach}

abbrev made : Option Counted → Option Asked → Bool → Bool → Bool → HandleState
made a b c d e = record { link = a; asked = b; owes_detach = c; awaits_detach = d; is_undetached = e }

made-same : (a a' : Option Counted) (b b' : Option Asked) (c c' d d' e e' : Bool) → a ≡ a' → b ≡ b' → c ≡ c' → d ≡ d' → e ≡ e' → made a b c d e ≡ made a' b' c' d' e'
made-same a a' b b' c c' d d' e e' p q r s t = rw (p, q, r, s, t) refl

module _ (handle : ℕ) where
  meaning-attach : (m : Meaning) → is_number (handle_about m) handle ≡ false → of_attach handle (Some m) ≡ false
  meaning-attach (AnAttach fields) off = off
  meaning-attach (AnOpen fields) off = refl
  meaning-attach (ABegin begin) off = refl
  meaning-attach (AFlow flow) off = refl
  meaning-attach (ATransfer fields) off = refl
  meaning-attach (ADisposition fields) off = refl
  meaning-attach (ADetach fields) off = refl
  meaning-attach (AnEnd error) off = refl
  meaning-attach (AClose error) off = refl

  meaning-detach : (m : Meaning) → is_number (handle_about m) handle ≡ false → of_detach handle (Some m) ≡ false
  meaning-detach (ADetach fields) off = off
  meaning-detach (AnOpen fields) off = refl
  meaning-detach (ABegin begin) off = refl
  meaning-detach (AnAttach fields) off = refl
  meaning-detach (AFlow flow) off = refl
  meaning-detach (ATransfer fields) off = refl
  meaning-detach (ADisposition fields) off = refl
  meaning-detach (AnEnd error) off = refl
  meaning-detach (AClose error) off = refl

  meaning-named : (m : Meaning) → is_number (handle_about m) handle ≡ false → is_number (handle_in m) handle ≡ false
  meaning-named (AnAttach fields) off = refl
  meaning-named (ADetach fields) off = off
  meaning-named (AFlow flow) off = off
  meaning-named (ATransfer fields) off = off
  meaning-named (AnOpen fields) off = refl
  meaning-named (ABegin begin) off = refl
  meaning-named (ADisposition fields) off = refl
  meaning-named (AnEnd error) off = refl
  meaning-named (AClose error) off = refl

  spoken-attach : (o : Option Spoken) → is_number (about o) handle ≡ false → of_attach handle (meant o) ≡ false
  spoken-attach None off = refl
  spoken-attach (Some spoken) off = meaning-attach spoken.meaning off

  spoken-detach : (o : Option Spoken) → is_number (about o) handle ≡ false → of_detach handle (meant o) ≡ false
  spoken-detach None off = refl
  spoken-detach (Some spoken) off = meaning-detach spoken.meaning off

  spoken-named : (o : Option Spoken) → is_number (about o) handle ≡ false → is_number (option_and_then (λ (spoken : Spoken). handle_in spoken.meaning) o) handle ≡ false
  spoken-named None off = refl
  spoken-named (Some spoken) off = meaning-named spoken.meaning off

  in-attach : (m : Moment) → is_number (about (spoken_of m)) handle ≡ false → of_attach handle (in_said m) ≡ false
  in-attach (In frame) off = spoken-attach (spoken_in frame.body) off
  in-attach (Out frame) off = refl
  in-attach Opened off = refl
  in-attach Lost off = refl
  in-attach Broken off = refl

  in-detach : (m : Moment) → is_number (about (spoken_of m)) handle ≡ false → of_detach handle (in_said m) ≡ false
  in-detach (In frame) off = spoken-detach (spoken_in frame.body) off
  in-detach (Out frame) off = refl
  in-detach Opened off = refl
  in-detach Lost off = refl
  in-detach Broken off = refl

  out-attach : (m : Moment) → is_number (about (spoken_of m)) handle ≡ false → of_attach handle (out_said m) ≡ false
  out-attach (Out frame) off = spoken-attach (spoken_in frame.body) off
  out-attach (In frame) off = refl
  out-attach Opened off = refl
  out-attach Lost off = refl
  out-attach Broken off = refl

  out-detach : (m : Moment) → is_number (about (spoken_of m)) handle ≡ false → of_detach handle (out_said m) ≡ false
  out-detach (Out frame) off = spoken-detach (spoken_in frame.body) off
  out-detach (In frame) off = refl
  out-detach Opened off = refl
  out-detach Lost off = refl
  out-detach Broken off = refl

  link-same : (din dout aout named : Bool) (a b link : Option Counted) → din ≡ false → dout ≡ false → aout ≡ false → named ≡ false
      → (if din || dout then None else if aout then a else if named then b else link) ≡ link
  link-same din dout aout named a b link p q r t = rw (p, q, r, t) refl

  asked-same : (aout ain heard : Bool) (a asked : Option Asked) → aout ≡ false → ain ≡ false → (if aout then None else if ain && heard then a else asked) ≡ asked
  asked-same aout ain heard a asked p q = rw (p, q) refl

  owes-same : (dout din aout on off owes : Bool) → dout ≡ false → din ≡ false → aout ≡ false → (if dout then false else din && on || aout && off || owes) ≡ owes
  owes-same dout din aout on off owes p q r = rw (p, q, r) refl

  awaits-same : (aout din dout undetached awaits : Bool) → aout ≡ false → din ≡ false → dout ≡ false → (if aout || din then false else if dout then undetached else awaits) ≡ awaits
  awaits-same aout din dout undetached awaits p q r = rw (p, q, r) refl

  undetached-same : (aout din undetached : Bool) → aout ≡ false → din ≡ false → (if aout then true else if din then false else undetached) ≡ undetached
  undetached-same aout din undetached p q = rw (p, q) refl

  pub next-other : (e : Event) (x : HandleState) → is_number (handle_of e) handle ≡ false → standing_next handle e x ≡ x
  next-other e x off =
      let ain : attaches_in handle e ≡ false = in-attach e.moment off in
      let aout : attaches_out handle e ≡ false = out-attach e.moment off in
      let din : detaches_in handle e ≡ false = in-detach e.moment off in
      let dout : detaches_out handle e ≡ false = out-detach e.moment off in
      let named : is_number (named_handle e) handle ≡ false = spoken-named (spoken_of e.moment) off in
      made-same _ _ _ _ _ _ _ _ _ _ (link-same _ _ _ _ _ _ _ din dout aout named) (asked-same _ _ e.is_heard _ _ aout ain)
      (owes-same _ _ _ _ _ _ dout din aout) (awaits-same _ _ _ _ _ aout din dout) (undetached-same _ _ _ aout din)

-- where an event says nothing of a handle, the handles of its session stay as they were
pub next-unsaid : (handle : ℕ) (e : Event) (x : HandleState) → handle_of e ≡ None → standing_next handle e x ≡ x
next-unsaid handle e x none = next-other handle e x (ap (λ o. is_number o handle) none)

-- so it leaves the entry of the session
pub unmoved-on : (e : Event) (x : Handles) → handle_of e ≡ None → IsMoved e x x
unmoved-on e x none handle = sym (next-unsaid handle e (standing_on x handle) none)

-- and where nothing stood, nothing stands
pub behind-nothing : (channel handle : ℕ) (e : Event) → says_of_handle e ≡ false → standing_behind channel handle e nothing ≡ nothing
behind-nothing channel handle e silent = by (is_final e.moment) (is_number (channel_of e.moment) channel) (is_in_end e || is_out_end e || is_some (out_begin e)) e.session (handle_of e) refl silent
  where
    by : (final on ended : Bool) (session : Option Session) (about : Option ℕ) → handle_of e ≡ about → is_some session && is_some about ≡ false
        → (if final then nothing else if on then (if ended then nothing else if is_some session then standing_next handle e nothing else nothing) else nothing) ≡ nothing
    by true on ended session about is none = refl
    by false false ended session about is none = refl
    by false true true session about is none = refl
    by false true false None about is none = refl
    by false true false (Some s) None is none = next-unsaid handle e nothing is
    by false true false (Some s) (Some h) is none = absurd cc

-- where the event stands in the entry of the handle of which it says something, it stands on the session
pub moved-on : (e : Event) (handle : ℕ) (earlier between later : Handles) → handle_of e ≡ Some handle
    → ((n : ℕ) → standing_on between n ≡ (if handle == n then standing_next handle e (standing_on earlier n) else standing_on earlier n))
    → IsSame between later → IsMoved e earlier later
moved-on e handle earlier between later said put same n = same n ∙ (put n ∙ by (handle == n) refl)
  where
    by : (b : Bool) → (handle == n) ≡ b → (if b then standing_next handle e (standing_on earlier n) else standing_on earlier n) ≡ standing_next n e (standing_on earlier n)
    by true own = ap (λ k. standing_next k e (standing_on earlier n)) (eqb-true handle n own)
    by false other = sym (next-other n e (standing_on earlier n) (ap (λ o. is_number o n) said ∙ other))

-- on a channel whose session goes on, an event that says nothing of a handle leaves what stands
here-unsaid : (handle : ℕ) (e : Event) (x : HandleState) → ends_channel e ≡ false → says_of_handle e ≡ false → standing_here handle e x ≡ x
here-unsaid handle e x going silent = by (ends_channel e) going e.session (handle_of e) refl silent
  where
    by : (ended : Bool) → ended ≡ false → (session : Option Session) (about : Option ℕ) → handle_of e ≡ about → is_some session && is_some about ≡ false
        → (if ended then nothing else if is_some session then standing_next handle e x else x) ≡ x
    by true never session about is none = absurd cc
    by false going None about is none = refl
    by false going (Some s) None is none = next-unsaid handle e x is
    by false going (Some s) (Some h) is none = absurd cc

-- and so it leaves the entry of the connection
pub unsaid-on : (channel : ℕ) (e : Event) (x : Channels) → ends_channel e ≡ false → says_of_handle e ≡ false → AreMovedOn channel e x x
unsaid-on channel e x going silent n handle = by (channel == n)
  where
    by : (b : Bool) → standing_of x n handle ≡ (if b then standing_here handle e (standing_of x n handle) else standing_of x n handle)
    by true = sym (here-unsaid handle e (standing_of x n handle) going silent)
    by false = refl

-- one that says something of a handle moves what stands of it
here-said : (handle : ℕ) (e : Event) (x : HandleState) → ends_channel e ≡ false → says_of_handle e ≡ true → standing_next handle e x ≡ standing_here handle e x
here-said handle e x going said = by (ends_channel e) going e.session (handle_of e) said
  where
    by : (ended : Bool) → ended ≡ false → (session : Option Session) (about : Option ℕ) → is_some session && is_some about ≡ true
        → standing_next handle e x ≡ (if ended then nothing else if is_some session then standing_next handle e x else x)
    by true never session about said = absurd cc
    by false going None about said = absurd cc
    by false going (Some s) about said = refl

-- and so it moves the entry of the connection, where it stands in that of its session
pub said-on : (channel : ℕ) (e : Event) (earlier later : Channels) → ends_channel e ≡ false → says_of_handle e ≡ true
    → ((n handle : ℕ) → standing_of later n handle ≡ (if channel == n then standing_next handle e (standing_of earlier n handle) else standing_of earlier n handle))
    → AreMovedOn channel e earlier later
said-on channel e earlier later going said put n handle = put n handle ∙ by (channel == n)
  where
    by : (b : Bool) → (if b then standing_next handle e (standing_of earlier n handle) else standing_of earlier n handle)
        ≡ (if b then standing_here handle e (standing_of earlier n handle) else standing_of earlier n handle)
    by true = here-said handle e (standing_of earlier n handle) going said
    by false = refl
