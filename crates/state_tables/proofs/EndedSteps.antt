-- Which links of the tables an event ends.
use Rattle.std.proofs.Common.{◌≡◌, refl, ap, ◌∙◌, ℕ, Bool, true, false, ◌&&◌, ◌||◌, Option, Some, None, is_some, option_and_then, option_map, ◌==◌}
use Rattle.amqp_perf.specs.Meaning.{Meaning, AnOpen, ABegin, AnAttach, AFlow, ATransfer, ADisposition, ADetach, AnEnd, AClose, AttachFields, DetachFields}
use Rattle.trace_events.specs.Words.{is_number, is_some_and}
use Rattle.trace_events.specs.Frame.{Spoken, spoken_in}
use Rattle.trace_events.specs.Event.{Event, Moment, Opened, In, Out, Lost, Broken, spoken_of}
use Rattle.trace_events.specs.Said.{as_attach, as_detach, in_detach, out_attach, out_detach}
use Rattle.trace_events.proofs.EventKinds.{in_said, out_said}
use Rattle.state_tables.specs.EndedLinks.{ends_handle, ends_named}
use Rattle.state_tables.specs.Links.{attaches_out, detaches_in, detaches_out, handle_about, handle_of}

-- ---- an event ends the link of the handle that it names, or of none

-- the handle that what was said is about; what it means; and whether that is an attach or a detach of the handle
abbrev pub about : Option Spoken → Option ℕ
about o = option_and_then (λ (spoken : Spoken). handle_about spoken.meaning) o

abbrev pub meant : Option Spoken → Option Meaning
meant o = option_map (λ (spoken : Spoken). spoken.meaning) o

module _ (handle : ℕ) where
  abbrev pub of_attach : Option Meaning → Bool
  of_attach o = is_some_and (option_and_then as_attach o) (λ (fields : AttachFields). fields.handle == handle)

  abbrev pub of_detach : Option Meaning → Bool
  of_detach o = is_some_and (option_and_then as_detach o) (λ (fields : DetachFields). fields.handle == handle)

  abbrev attaches : Option Meaning → Bool
  attaches o = is_some (option_and_then as_attach o)

  abbrev detaches : Option Meaning → Bool
  detaches o = is_some (option_and_then as_detach o)

  meaning-attach : (m : Meaning) → of_attach (Some m) ≡ (attaches (Some m) && is_number (handle_about m) handle)
  meaning-attach (AnAttach fields) = refl
  meaning-attach (AnOpen fields) = refl
  meaning-attach (ABegin begin) = refl
  meaning-attach (AFlow fields) = refl
  meaning-attach (ATransfer fields) = refl
  meaning-attach (ADisposition fields) = refl
  meaning-attach (ADetach fields) = refl
  meaning-attach (AnEnd fields) = refl
  meaning-attach (AClose fields) = refl

  meaning-detach : (m : Meaning) → of_detach (Some m) ≡ (detaches (Some m) && is_number (handle_about m) handle)
  meaning-detach (AnAttach fields) = refl
  meaning-detach (AnOpen fields) = refl
  meaning-detach (ABegin begin) = refl
  meaning-detach (AFlow fields) = refl
  meaning-detach (ATransfer fields) = refl
  meaning-detach (ADisposition fields) = refl
  meaning-detach (ADetach fields) = refl
  meaning-detach (AnEnd fields) = refl
  meaning-detach (AClose fields) = refl

  spoken-attach : (o : Option Spoken) → of_attach (meant o) ≡ (attaches (meant o) && is_number (about o) handle)
  spoken-attach None = refl
  spoken-attach (Some spoken) = meaning-attach spoken.meaning

  spoken-detach : (o : Option Spoken) → of_detach (meant o) ≡ (detaches (meant o) && is_number (about o) handle)
  spoken-detach None = refl
  spoken-detach (Some spoken) = meaning-detach spoken.meaning

  in-detach : (m : Moment) → of_detach (in_said m) ≡ (detaches (in_said m) && is_number (about (spoken_of m)) handle)
  in-detach (In frame) = spoken-detach (spoken_in frame.body)
  in-detach (Out frame) = refl
  in-detach Opened = refl
  in-detach Lost = refl
  in-detach Broken = refl

  out-detach : (m : Moment) → of_detach (out_said m) ≡ (detaches (out_said m) && is_number (about (spoken_of m)) handle)
  out-detach (Out frame) = spoken-detach (spoken_in frame.body)
  out-detach (In frame) = refl
  out-detach Opened = refl
  out-detach Lost = refl
  out-detach Broken = refl

  out-attach : (m : Moment) → of_attach (out_said m) ≡ (attaches (out_said m) && is_number (about (spoken_of m)) handle)
  out-attach (Out frame) = spoken-attach (spoken_in frame.body)
  out-attach (In frame) = refl
  out-attach Opened = refl
  out-attach Lost = refl
  out-attach Broken = refl

  together : (a b c d n : Bool) → (a && n || b && n || c && n && d) ≡ ((a || b || c && d) && n)
  together true b c d true = refl
  together false true c d true = refl
  together false false true d true = by d
    where
      by : (d : Bool) → d ≡ (d && true)
      by true = refl
      by false = refl
  together false false false d true = refl
  together true true true d false = refl
  together true true false d false = refl
  together true false true d false = refl
  together true false false d false = refl
  together false true true d false = refl
  together false true false d false = refl
  together false false true true false = refl
  together false false true false false = refl
  together false false false d false = refl

  pub ends-handle : (e : Event) → ends_handle handle e ≡ (ends_named e && is_number (handle_of e) handle)
  ends-handle e =
      let din : detaches_in handle e ≡ (is_some (in_detach e) && is_number (handle_of e) handle) = in-detach e.moment in
      let dout : detaches_out handle e ≡ (is_some (out_detach e) && is_number (handle_of e) handle) = out-detach e.moment in
      let aout : attaches_out handle e ≡ (is_some (out_attach e) && is_number (handle_of e) handle) = out-attach e.moment in
      ap (λ b. b || detaches_out handle e || attaches_out handle e && is_some e.link) din
      ∙ (ap (λ b. is_some (in_detach e) && is_number (handle_of e) handle || b || attaches_out handle e && is_some e.link) dout
      ∙ (ap (λ b. is_some (in_detach e) && is_number (handle_of e) handle || (is_some (out_detach e) && is_number (handle_of e) handle) || b && is_some e.link) aout
      ∙ together (is_some (in_detach e)) (is_some (out_detach e)) (is_some (out_attach e)) (is_some e.link) (is_number (handle_of e) handle)))
