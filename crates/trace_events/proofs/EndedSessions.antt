-- In a lawful capture an end that is written on a live session ends one that the client has not ended.
use Rattle.std.proofs.Common.{◌≡◌, refl, sym, ap, ◌∙◌, ℕ, Bool, true, false, ◌&&◌, ◌||◌, List, [], ◌∷◌, Option, Some, None, is_some, option_and_then, option_map, if◌then◌else◌}
use Rattle.amqp_perf.specs.declared.begin.Begin.{Begin}
use Rattle.amqp_perf.specs.Meaning.{Meaning, AnOpen, ABegin, AnAttach, AFlow, ATransfer, ADisposition, ADetach, AnEnd, AClose}
use Rattle.capture_form.specs.Rules.{RuleSet}
use Rattle.trace_events.specs.declared.clause.Clause.TheVariants.{L13}
use Rattle.trace_events.specs.Words.{is_some_and}
use Rattle.trace_events.specs.Frame.{Frame, Spoken, spoken_in}
use Rattle.trace_events.specs.Said.{as_begin, is_end, in_meaning, out_meaning, out_begin, is_in_end, is_out_end}
use Rattle.trace_events.specs.Event.{Event, Moment, Opened, In, Out, Lost, Broken, is_out, spoken_of, channel_of, is_on_channel}
use Rattle.trace_events.specs.declared.session.Session.{Session}
use Rattle.trace_events.specs.Connection.{is_over}
use Rattle.trace_events.specs.Session.{last_session, last_in_begin, new_session, session_begun, is_unended, owes_end, begins_out, ends_in, ends_out}
use Rattle.trace_events.specs.Heard.{is_of_connection}
use Rattle.trace_events.specs.Clauses.{first_broken, meaning_meets}
use Rattle.trace_events.specs.SessionClause.{may_end}
use Rattle.trace_events.proofs.Along.{and_first, some_passes}
use Rattle.trace_events.proofs.EventKinds.{out_said, out_said-in}
use Rattle.trace_events.proofs.Judged.{AreJudged}
use Rattle.trace_events.proofs.ClausesMet.{met}
use Rattle.trace_events.proofs.OpenedConnections.{IsInPlace, written-in_place, written-not_over}
use Rattle.trace_events.proofs.EventSessions.{spoken-channel, session-live, said-live}

-- ---- no event is both an end of the client and a begin of the router, or an end of the router and a begin

pub in_end-no_begin : (e : Event) → is_in_end e ≡ true → out_begin e ≡ None
in_end-no_begin e is =
    let said = some_passes is_end (in_meaning e) is in
    ap (option_and_then as_begin) (out_said-in e.moment said.0 said.1)

end-no_begin : (m : Meaning) → is_end m ≡ true → as_begin m ≡ None
end-no_begin (AnEnd error) is = refl
end-no_begin (AnOpen fields) is = refl
end-no_begin (ABegin begin) is = absurd cc
end-no_begin (AnAttach fields) is = refl
end-no_begin (AFlow flow) is = refl
end-no_begin (ATransfer fields) is = refl
end-no_begin (ADisposition fields) is = refl
end-no_begin (ADetach fields) is = refl
end-no_begin (AClose error) is = refl

pub out_end-no_begin : (e : Event) → is_out_end e ≡ true → out_begin e ≡ None
out_end-no_begin e is =
    let said = some_passes is_end (out_meaning e) is in
    ap (option_and_then as_begin) said.1 ∙ end-no_begin said.0 said.2

-- ---- what lives has not been ended, and what is owed an end has

last_by : (ended_in ended_out begun unended : Bool) (new earlier : Option Session) (s : Session) → (earlier ≡ Some s → unended ≡ true)
    → (if ended_in || ended_out then None else if begun then new else earlier) ≡ Some s → (if begun then true else if ended_in then false else unended) ≡ true
last_by true ended_out begun unended new earlier s before is = absurd cc
last_by false true begun unended new earlier s before is = absurd cc
last_by false false true unended new earlier s before is = refl
last_by false false false unended new earlier s before is = before is

last-unended : (c channel : ℕ) (past : List Event) (s : Session) → last_session c channel past ≡ Some s → is_unended c channel past ≡ true
last-unended c channel [] s is = absurd cc
last-unended c channel (e ∷ past) s is =
    last_by (ends_in c channel e) (ends_out c channel e) (begins_out c channel e) (is_unended c channel past) (session_begun c channel e past) (last_session c channel past) s
    (last-unended c channel past s) is

owed_by : (ended_in ended_out begun met owed unended : Bool) (new earlier : Option Session) → (ended_in ≡ true → begun ≡ false) → (begun ≡ true → is_some new ≡ true)
    → (owed ≡ true → earlier ≡ None → unended ≡ false) → (if ended_out then false else ended_in && met || owed) ≡ true
    → (if ended_in || ended_out then None else if begun then new else earlier) ≡ None → (if begun then true else if ended_in then false else unended) ≡ false
owed_by ended_in true begun met owed unended new earlier apart opens before owes none = absurd cc
owed_by true false true met owed unended new earlier apart opens before owes none = absurd (let never = apart refl in cc)
owed_by true false false met owed unended new earlier apart opens before owes none = refl
owed_by false false true met owed unended None earlier apart opens before owes none = absurd (let never = opens refl in cc)
owed_by false false true met owed unended (Some s) earlier apart opens before owes none = absurd cc
owed_by false false false met owed unended new earlier apart opens before owes none = before owes none

begun-some : (number c channel : ℕ) (begin theirs : Option Begin) → is_some begin ≡ true → is_some (option_map (λ (ours : Begin). new_session number c channel ours theirs) begin) ≡ true
begun-some number c channel None theirs is = absurd cc
begun-some number c channel (Some begin) theirs is = refl

opens : (c channel : ℕ) (e : Event) (past : List Event) → begins_out c channel e ≡ true → is_some (session_begun c channel e past) ≡ true
opens c channel e past begins =
    begun-some e.number c channel (out_begin e) (last_in_begin c channel past) (and_first (is_some (out_begin e)) (is_on_channel c channel e) begins)

apart : (c channel : ℕ) (e : Event) → ends_in c channel e ≡ true → begins_out c channel e ≡ false
apart c channel e ends = ap (λ o. is_some o && is_on_channel c channel e) (in_end-no_begin e (and_first (is_in_end e) (is_on_channel c channel e) ends))

owed-ended : (c channel : ℕ) (past : List Event) → owes_end c channel past ≡ true → last_session c channel past ≡ None → is_unended c channel past ≡ false
owed-ended c channel [] owes none = refl
owed-ended c channel (e ∷ past) owes none =
    owed_by (ends_in c channel e) (ends_out c channel e) (begins_out c channel e) (is_some e.session) (owes_end c channel past) (is_unended c channel past)
    (session_begun c channel e past) (last_session c channel past) (apart c channel e) (opens c channel e past) (owed-ended c channel past) owes none

-- ---- so an end that is written awaits the client's where it stands on a live session

end-apart : (m : Meaning) → is_end m ≡ true → is_of_connection m ≡ false
end-apart (AnEnd error) is = refl
end-apart (AnOpen fields) is = absurd cc
end-apart (ABegin begin) is = absurd cc
end-apart (AnAttach fields) is = absurd cc
end-apart (AFlow flow) is = absurd cc
end-apart (ATransfer fields) is = absurd cc
end-apart (ADisposition fields) is = absurd cc
end-apart (ADetach fields) is = absurd cc
end-apart (AClose error) is = absurd cc

end_out : (m : Moment) → is_some_and (out_said m) is_end ≡ true → is_out m ≡ true
end_out (Out frame) is = refl
end_out (In frame) is = absurd cc
end_out Opened is = absurd cc
end_out Lost is = absurd cc
end_out Broken is = absurd cc

means_end : (e : Event) (frame : Frame) (spoken : Spoken) → e.moment ≡ Out frame → spoken_in frame.body ≡ Some spoken → is_out_end e ≡ is_end spoken.meaning
means_end e frame spoken written says =
    ap (λ m. is_some_and (out_said m) is_end) written ∙ ap (λ o. is_some_and (option_map (λ (s : Spoken). s.meaning) o) is_end) says

ended_meets : (rules : RuleSet) (e : Event) (spoken : Spoken) (past : List Event) (m : Meaning) → is_end m ≡ true → meaning_meets rules e spoken past m L13 ≡ true → may_end e spoken.channel past ≡ true
ended_meets rules e spoken past (AnEnd error) is meets = meets
ended_meets rules e spoken past (AnOpen fields) is meets = absurd cc
ended_meets rules e spoken past (ABegin begin) is meets = absurd cc
ended_meets rules e spoken past (AnAttach fields) is meets = absurd cc
ended_meets rules e spoken past (AFlow flow) is meets = absurd cc
ended_meets rules e spoken past (ATransfer fields) is meets = absurd cc
ended_meets rules e spoken past (ADisposition fields) is meets = absurd cc
ended_meets rules e spoken past (ADetach fields) is meets = absurd cc
ended_meets rules e spoken past (AClose error) is meets = absurd cc

said_of : (e : Event) (frame : Frame) (spoken : Spoken) → e.moment ≡ Out frame → spoken_in frame.body ≡ Some spoken → spoken_of e.moment ≡ Some spoken
said_of e frame spoken written says = ap spoken_of written ∙ says

some_channel : (a b : ℕ) → ◌≡◌ {A = Option ℕ} (Some a) (Some b) → a ≡ b
some_channel a b is = cc

module _ (rules : RuleSet) (e : Event) (past : List Event) (are : AreJudged rules (e ∷ past)) (lawful : first_broken rules (e ∷ past) ≡ None) (ends : is_out_end e ≡ true) where
  place : IsInPlace e past
  place = written-in_place rules e past lawful (end_out e.moment ends)

  said : is_end place.spoken.meaning ≡ true
  said = sym (means_end e place.frame place.spoken place.written place.says) ∙ ends

  alive : is_over e.connection past ≡ false
  alive = written-not_over rules e past lawful place (end-apart place.spoken.meaning said)

  meets : is_some e.session || owes_end e.connection place.spoken.channel past ≡ true
  meets = ended_meets rules e place.spoken past place.spoken.meaning said (met rules e past lawful place.frame place.written place.spoken place.says L13)

  there : e.session ≡ last_session e.connection place.spoken.channel past
  there =
      session-live rules e past are (out_end-no_begin e ends)
      ∙ (said-live e.connection e.moment past place.spoken (said_of e place.frame place.spoken place.written place.says)
      ∙ ap (λ b. if b then None else last_session e.connection place.spoken.channel past) alive)

  by : (o : Option Session) → e.session ≡ o → is_unended e.connection place.spoken.channel past ≡ is_some o
  by (Some s) is = last-unended e.connection place.spoken.channel past s (sym there ∙ is)
  by None is =
      owed-ended e.connection place.spoken.channel past (ap (λ o. is_some o || owes_end e.connection place.spoken.channel past) (sym is) ∙ meets) (sym there ∙ is)

  -- the channel's last session is not ended by the client just where the end stands on a live one
  pub ended-was_unended : (channel : ℕ) → channel_of e.moment ≡ Some channel → is_unended e.connection channel past ≡ is_some e.session
  ended-was_unended channel on =
      let same : place.spoken.channel ≡ channel =
      some_channel place.spoken.channel channel (sym (spoken-channel e.moment place.spoken (said_of e place.frame place.spoken place.written place.says)) ∙ on) in
      ap (λ n. is_unended e.connection n past) (sym same) ∙ by e.session refl
