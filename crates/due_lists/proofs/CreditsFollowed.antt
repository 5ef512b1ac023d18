-- The list of links that may be given more credit, behind one more event, and where it is empty.
use Rattle.std.proofs.Common.{◌≡◌, refl, sym, ap, ◌∙◌, ℕ, suc, ◌<◌, Bool, true, false, not, ◌&&◌, ◌||◌, ◌↔◌, inl, inr, List, [], ◌∷◌, length, Option, Some, None, option_map, if◌then◌else◌, ◌==◌, eqb-true, arith}
use Rattle.std.specs.Prelude.{Contains}
use Rattle.capture_form.specs.Rules.{RuleSet}
use Rattle.trace_events.specs.Words.{is_some_and, where_passes}
use Rattle.trace_events.specs.Event.{Event, Link, Incoming}
use Rattle.trace_events.specs.declared.session.Session.{Session}
use Rattle.trace_events.specs.Address.{has_consumer}
use Rattle.trace_events.specs.Ends.{ends_link}
use Rattle.trace_events.specs.Incoming.{is_aborted, is_complete, is_settled, is_told}
use Rattle.trace_events.specs.Link.{IsLiveLink, is_consumer, is_producer, is_live, live_links, own_link}
use Rattle.trace_events.specs.Waiting.{has_waiting, is_undecided, is_unpaired, always_had_consumer}
use Rattle.trace_events.specs.Clauses.{first_broken}
use Rattle.trace_events.specs.FlowClause.{may_be_topped_up}
use Rattle.trace_events.proofs.Judged.{AreJudged}
use Rattle.trace_events.proofs.LinkLives.{judged-stands}
use Rattle.trace_events.proofs.LinkNumbers.{own_link-number}
use Rattle.trace_events.proofs.Links.{passing}
use Rattle.trace_events.proofs.ClausesMet.{lawful-past}
use Rattle.trace_duties.specs.Quiet.{none_lacks_credit}
use Rattle.trace_duties.proofs.QuietLists.{all-each}
use Rattle.state_incoming.specs.EntryAnswers.{Knows}
use Rattle.state_incoming.specs.Held.{is_held}
use Rattle.state_incoming.specs.HeldTables.{IsTable}
use Rattle.state_incoming.specs.declared.deliveries.Deliveries.{Deliveries}
use Rattle.state_incoming.proofs.CarriedHeld.{knows-held}
use Rattle.state_incoming.proofs.OverKnown.{undecided-kept}
use Rattle.state_tables.specs.ConsumerLinks.{has_link}
use Rattle.state_answers.specs.declared.lent_tables.LentTables.{LentTables}
use Rattle.state_answers.specs.Tables.{TellsOf}
use Rattle.due_lists.specs.Credits.{HasCredits, IsIn, AreEndedIn, AreFreedIn, AreOpenedIn, HasMore, AreTouchedIn, AreWokenIn, has_waited, place_in, on_session, at_address, waits}
use Rattle.due_lists.specs.Topping.{IsProducing, IsToppable, IsDecidedOn, EndsWaited}
use Rattle.due_lists.specs.declared.credits.Credits.{Credits}
use Rattle.due_lists.proofs.LiveOnes.{link-before, live-known, live_links-live}
use Rattle.due_lists.proofs.PartsFollowed.{not-ended}
use Rattle.due_lists.proofs.ToppedLinks.{Touches, Names, Tells, Carries, Settles, Serves, Frees, lived-before, some-any}

-- ---- what is undecided is kept

held-bits : (live aborted complete unpaired always settled told : Bool) → live && not aborted && (not complete || unpaired && always || not (settled || told)) ≡ true
    → (if complete then not ((unpaired && not always) && (told || settled || not live)) else not aborted && live) ≡ true
held-bits true false false u a s t is = refl
held-bits true false true false a s t is = refl
held-bits true false true true true s t is = refl
held-bits true false true true false true t is = absurd cc
held-bits true false true true false false true is = absurd cc
held-bits true false true true false false false is = refl
held-bits true true c u a s t is = absurd (by (not c || u && a || not (s || t)) is)
  where
    by : (b : Bool) → false && b ≡ true → ⊥
    by b is = cc
held-bits false ab c u a s t is = absurd cc

pub undecided-held : (rules : RuleSet) (past : List Event) (d : Incoming) → is_undecided rules d past ≡ true → is_held rules past d ≡ true
undecided-held rules past d is =
    held-bits (is_live past d.link) (is_aborted d past) (is_complete d past) (is_unpaired rules d past) (always_had_consumer d past) (is_settled d past) (is_told d past) is

pub decided-known : (rules : RuleSet) (past : List Event) → AreJudged rules past → first_broken rules past ≡ None → (table : Deliveries) → IsTable rules table past
    → (l : Link) (o : Option ℕ) (d : IsDecidedOn rules past l o) → Knows table d.delivery
decided-known rules past are lawful table is_table l o d =
    knows-held rules past are lawful table is_table.0 d.delivery d.at (undecided-held rules past d.delivery d.undecided)
    (undecided-kept rules past are table is_table.1.1 d.delivery.number d.delivery d.at d.undecided)

-- ---- a link that is in the list

no-octets : (xs : List ℕ) → (length xs == 0) ≡ true → xs ≡ []
no-octets [] is = refl
no-octets (x ∷ xs) is = let none : suc (length xs) ≡ 0 = eqb-true (length (x ∷ xs)) 0 is in absurd (omega (arith, none))

in-more : (c c' : Credits) (l : Link) → HasMore c c' → IsIn c l → IsIn c' l
in-more c c' l more is = record {
  place = more.places l.number ∙ is.place;
  session = more.sessions l.session.number l.number ∙ is.session;
  address = more.addresses l.address l.number ∙ is.address;
}

module _ (rules : RuleSet) (e : Event) (past : List Event) (are : AreJudged rules (e ∷ past)) (lawful : first_broken rules (e ∷ past) ≡ None)
    (before : LentTables) (tables : TellsOf rules before past) (ended : List Link) (all : (l : Link) → Contains ended l ↔ IsLiveLink l past × (ends_link l e ≡ true))
    (old without with_opened touched waked now : Credits) (ends : AreEndedIn ended old without) (opens : AreOpenedIn e without with_opened) (touches : AreTouchedIn e before with_opened touched)
    (wakes : AreWokenIn e before touched waked) (frees : AreFreedIn ended before waked now) (has : HasCredits rules old past) where
  woken : (n : ℕ) → waits touched n ≡ true → waits now n ≡ true
  woken n is = frees.more.waiting n (wakes.more.waiting n is)

  in-now : (l : Link) → IsIn touched l → IsIn now l
  in-now l is = in-more waked now l frees.more (in-more touched waked l wakes.more is)

  -- a consumer's link at whose address deliveries wait is among those that end
  waited : EndsWaited rules e past → has_waited rules past ended ≡ true
  waited w =
      some-any (λ (k : Link). is_consumer k && has_waiting rules k.address past) ended w.link ((all w.link).1 (w.live, w.ends))
      (ap (λ b. b && has_waiting rules w.link.address past) w.consumer ∙ w.waits)

  -- one that the event opens
  opened : (l : Link) → IsProducing l (e ∷ past) → own_link e ≡ Some l → IsIn now l × (may_be_topped_up rules (e ∷ past) l ≡ true → waits now l.number ≡ true)
  opened l is own =
      let here = opens.opened l (ap (where_passes is_producer) own ∙ ap (λ b. if b then Some l else None) is.producer) in (
        in-now l (in-more with_opened touched l touches.more here),
        λ may. woken l.number (touches.names l (passing (λ (k : Link). k.number == e.number) e.link l own).0 is.producer),
      )

  -- one that lived
  module _ (l : Link) (is : IsProducing l (e ∷ past)) (live : IsLiveLink l past) where
    was : IsIn old l × (may_be_topped_up rules past l ≡ true → waits old l.number ≡ true)
    was = has l (record { live = live; producer = is.producer })

    stays : has_link ended l.number ≡ false
    stays = not-ended rules e past are ended all l live is.live

    below : l.number < length past
    below = ((judged-stands rules past are.1).known l.session l.handle l (live-known rules past are.1 l.session.connection l.session.channel l.session live.0) live.1).before

    apart : (o : Option Link) → own_link e ≡ o → is_some_and o (λ k. k.number == l.number) ≡ false
    apart None own = refl
    apart (Some k) own = by (k.number == l.number) refl
      where
        by : (b : Bool) → (k.number == l.number) ≡ b → b ≡ false
        by true same = let lt = below in absurd (omega (arith, own_link-number rules e past k are own, eqb-true k.number l.number same, lt))
        by false other = refl

    in-opened : IsIn with_opened l
    in-opened = record {
      place = opens.places l.number (apart (own_link e) refl) ∙ (ends.places l.number stays ∙ was.0.place);
      session = opens.sessions l.session.number l.number (ends.sessions l.session.number l.number stays was.0.session);
      address = opens.addresses l.address l.number (ends.addresses l.address l.number stays was.0.address);
    }

    in-touched : IsIn touched l
    in-touched = in-more with_opened touched l touches.more in-opened

    known : (o : Option ℕ) (d : IsDecidedOn rules past l o) → Knows before.deliveries.now d.delivery
    known o d = decided-known rules past are.1 (lawful-past rules e past lawful) before.deliveries.now tables.1.1.1.1.0 l o d

    by-kind : Touches rules e past l → waits now l.number ≡ true
    by-kind (Names on) = woken l.number (touches.names l on is.producer)
    by-kind (Tells d) = woken l.number (ap (λ (k : Link). waits touched k.number) (sym d.link) ∙ touches.tells rules past tables d.delivery d.is (known e.told d))
    by-kind (Carries d) = woken l.number (ap (λ (k : Link). waits touched k.number) (sym d.link) ∙ touches.carries rules past tables d.delivery d.is (known _ d))
    by-kind (Settles on settles_it) = frees.more.waiting l.number (wakes.settled l.session.number settles_it (ap (option_map (λ (s : Session). s.number)) on) l.number in-touched.session)
    by-kind (Serves s) =
        frees.more.waiting l.number (wakes.served rules past tables s.consumer s.opened (ap (λ a. has_consumer a past) s.address ∙ s.unserved) l.number
        (ap (λ a. at_address touched a l.number) s.address ∙ in-touched.address))
    by-kind (Frees anonymous w) =
        frees.freed rules past tables (waited w) l.number (ap (λ a. at_address waked a l.number) (sym (no-octets l.address anonymous)) ∙ (in-more touched waked l wakes.more in-touched).address)

    lived : IsIn now l × (may_be_topped_up rules (e ∷ past) l ≡ true → waits now l.number ≡ true)
    lived = (
      in-now l in-touched,
      λ may. elim (lived-before rules e past are lawful l is.live live may) [
        | inl kind ↦ by-kind kind
        | inr had ↦ woken l.number (touches.more.waiting l.number (opens.waiting l.number ∙ (ends.waiting l.number ∙ was.1 had)))
      ],
    )

  pub have-credits : HasCredits rules now (e ∷ past)
  have-credits l is = elim (link-before rules e past are l is.live) [
    | inl own ↦ opened l is own
    | inr live ↦ lived l is live
  ]

-- ---- what may be given more credit

-- without the candidate that may not
pub have-dropped : (rules : RuleSet) (past : List Event) (c c' : Credits) (number : ℕ)
    → ((n : ℕ) → place_in c' n ≡ place_in c n) → ((session n : ℕ) → on_session c' session n ≡ on_session c session n) → ((address : List ℕ) (n : ℕ) → at_address c' address n ≡ at_address c address n)
    → ((n : ℕ) → waits c' n ≡ waits c n && not (number == n)) → ((l : Link) → l.number ≡ number → IsIn c l → IsToppable rules l past → ⊥) → HasCredits rules c past → HasCredits rules c' past
have-dropped rules past c c' number places sessions addresses dropped none has l is =
    let h = has l is in (
      record {
        place = places l.number ∙ h.0.place;
        session = sessions l.session.number l.number ∙ h.0.session;
        address = addresses l.address l.number ∙ h.0.address;
      },
      λ may. dropped l.number ∙ by h.0 (h.1 may) (number == l.number) refl may,
    )
  where
    stays : (b : Bool) → b ≡ true → b && true ≡ true
    stays true is = refl
    stays false is = absurd cc

    by : IsIn c l → waits c l.number ≡ true → (b : Bool) → (number == l.number) ≡ b → may_be_topped_up rules past l ≡ true → waits c l.number && not b ≡ true
    by there waits_it false other may = stays (waits c l.number) waits_it
    by there waits_it true same may = absurd (none l (sym (eqb-true number l.number same)) there (record { live = is.live; producer = is.producer; may = may }))

-- no candidates
pub none-lacking : (rules : RuleSet) (past : List Event) → AreJudged rules past → (c : Credits) → HasCredits rules c past → ((n : ℕ) → waits c n ≡ false) → none_lacks_credit rules past ≡ true
none-lacking rules past are c has none =
    all-each (λ l. not (is_producer l && may_be_topped_up rules past l)) (live_links past)
    (λ l there. by l (live_links-live rules past are l there) (is_producer l) (may_be_topped_up rules past l) refl refl)
  where
    by : (l : Link) → IsLiveLink l past → (b d : Bool) → is_producer l ≡ b → may_be_topped_up rules past l ≡ d → not (b && d) ≡ true
    by l live false d producer may = refl
    by l live true false producer may = refl
    by l live true true producer may =
        let never : false ≡ true = sym (none l.number) ∙ (has l (record { live = live; producer = producer })).1 may in
        cc
