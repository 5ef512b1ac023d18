-- The links that an entry gives are those that stand on its handles and that the event ends.
use Rattle.std.proofs.Common.{◌≡◌, refl, sym, ap, subst, ◌∙◌, ◌↔◌, ℕ, Bool, true, false, ◌&&◌, ◌||◌, List, [], ◌∷◌, Option, Some, None, is_some, nat_eq, option_and_then, option_map, unwrap_or, eqb-true, if◌then◌else◌}
use Rattle.std.proofs.lemmas.Bool.{eq-eqb}
use Rattle.std.proofs.lemmas.List.Elements.{Contains-push}
use Rattle.std.specs.List.{Contains}
use Rattle.indexmap.specs.IndexMap.{IsUnique, get, values}
use Rattle.trace_events.specs.Words.{is_number}
use Rattle.trace_events.specs.Event.{Event, Link, channel_of}
use Rattle.trace_events.specs.Connection.{is_final}
use Rattle.state_tables.specs.EndedLinks.{IsEndedOf, IsEndedOn, ends_at, ends_channel, ends_handle, ends_named, ends_on, link_named, links_of, links_on}
use Rattle.state_tables.specs.Links.{HandleState, handle_of, link_of, nothing}
use Rattle.state_tables.specs.LinkTables.{standing_of, standing_on}
use Rattle.state_tables.specs.declared.channels.Channels.{Channels}
use Rattle.state_tables.specs.declared.handles.Handles.{Handles}
use Rattle.state_tables.proofs.EndedMembers.{filter_map-from, filter_map-gives, flat_map-from, flat_map-gives, found-value, none_in, only, value-found}
use Rattle.state_tables.proofs.EndedSteps.{ends-handle}

-- a link stands only where something does
standing-link : (o : Option HandleState) (l : Link) → link_of (unwrap_or o nothing) ≡ Some l → (x : HandleState) × ((o ≡ Some x) × (link_of x ≡ Some l))
standing-link None l is = absurd cc
standing-link (Some x) l is = (x, (refl, is))

session-link : (handle : ℕ) (o : Option Handles) (l : Link) → link_of (unwrap_or (option_map (λ (y : Handles). standing_on y handle) o) nothing) ≡ Some l
    → (x : Handles) × ((o ≡ Some x) × (link_of (standing_on x handle) ≡ Some l))
session-link handle None l is = absurd cc
session-link handle (Some x) l is = (x, (refl, is))

module _ (x : Handles) (l : Link) where
  standing : (handle : ℕ) → link_of (standing_on x handle) ≡ Some l → Contains (links_on x) l
  standing handle is =
      let found = standing-link (get nat_eq x.entries handle) l is in
      filter_map-gives link_of (values x.entries) found.0 l (value-found x.entries.entries handle found.0 found.1.0) found.1.1

  stands : IsUnique nat_eq x.entries → Contains (links_on x) l → (handle : ℕ) × (link_of (standing_on x handle) ≡ Some l)
  stands distinct in_it =
      let found = filter_map-from link_of (values x.entries) l in_it in
      let at = found-value x.entries.entries distinct found.0 found.1.0 in
      (at.0, ap (λ o. link_of (unwrap_or o nothing)) at.1 ∙ found.1.1)

module _ (x : Channels) (l : Link) where
  standing-there : (channel handle : ℕ) → link_of (standing_of x channel handle) ≡ Some l → Contains (links_of x) l
  standing-there channel handle is =
      let found = session-link handle (get nat_eq x.entries channel) l is in
      flat_map-gives links_on (values x.entries) found.0 l (value-found x.entries.entries channel found.0 found.1.0) (standing found.0 l handle found.1.1)

  stands-there : IsUnique nat_eq x.entries → ((session : Handles) → Contains (values x.entries) session → IsUnique nat_eq session.entries) → Contains (links_of x) l
      → (channel : ℕ) × ((handle : ℕ) × (link_of (standing_of x channel handle) ≡ Some l))
  stands-there distinct each in_it =
      let found = flat_map-from links_on (values x.entries) l in_it in
      let at = found-value x.entries.entries distinct found.0 found.1.0 in
      let on = stands found.0 l (each found.0 found.1.0) found.1.1 in
      (at.0, (on.0, ap (λ o. link_of (unwrap_or (option_map (λ (y : Handles). standing_on y on.0) o) nothing)) at.1 ∙ on.1))

-- ---- the links of a session

and_both : (a b : Bool) → a && b ≡ true → (a ≡ true) × (b ≡ true)
and_both true b is = (refl, is)
and_both false b is = absurd cc

module _ (e : Event) (x : Handles) (links : List Link) where
  -- where the session ends
  pub all-ended : IsUnique nat_eq x.entries → ends_channel e ≡ true → links ≡ links_on x → (l : Link) → Contains links l ↔ IsEndedOn e x l
  all-ended distinct ends is l = (
    (λ in_it. let on = stands x l distinct (subst (λ xs. Contains xs l) is in_it) in (on.0, (on.1, ap (λ b. b || is_some e.session && ends_handle on.0 e) ends))),
    (λ on. subst (λ xs. Contains xs l) (sym is) (standing x l on.0 on.1.0)),
  )

  -- of any other event
  module _ (none : ends_channel e ≡ false) where
    named : (l : Link) → link_named e x ≡ Some l → IsEndedOn e x l
    named l is = by (is_some e.session && ends_named e) (handle_of e) refl refl is
      where
        by : (b : Bool) (o : Option ℕ) → is_some e.session && ends_named e ≡ b → handle_of e ≡ o
            → (if b then option_and_then (λ handle. link_of (standing_on x handle)) o else None) ≡ Some l → IsEndedOn e x l
        by false o ends of is = absurd cc
        by true None ends of is = absurd cc
        by true (Some handle) ends of is =
            let both = and_both (is_some e.session) (ends_named e) ends in (
              handle,
              (
                is,
                ap (λ b. b || is_some e.session && ends_handle handle e) none
                    ∙ (ap (λ b. b && ends_handle handle e) both.0
                    ∙ (ends-handle handle e ∙ (ap (λ b. b && is_number (handle_of e) handle) both.1 ∙ (ap (λ o. is_number o handle) of ∙ eq-eqb handle handle refl)))),
              ),
            )

    names : (l : Link) → IsEndedOn e x l → link_named e x ≡ Some l
    names l on =
        let handle = on.0 in
        let ends = and_both (is_some e.session) (ends_handle handle e) (sym (ap (λ b. b || is_some e.session && ends_handle handle e) none) ∙ on.1.1) in
        let both = and_both (ends_named e) (is_number (handle_of e) handle) (sym (ends-handle handle e) ∙ ends.1) in
        ap (λ b. if b && ends_named e then option_and_then (λ h. link_of (standing_on x h)) (handle_of e) else None) ends.0
        ∙ (ap (λ b. if b then option_and_then (λ h. link_of (standing_on x h)) (handle_of e) else None) both.0
        ∙ (ap (λ o. option_and_then (λ h. link_of (standing_on x h)) o) (number_is (handle_of e) handle both.1) ∙ on.1.0))
      where
        number_is : (o : Option ℕ) (n : ℕ) → is_number o n ≡ true → o ≡ Some n
        number_is None n is = absurd cc
        number_is (Some m) n is = ap Some (eqb-true m n is)

    pub one-ended : (k : Link) → link_named e x ≡ Some k → links ≡ k ∷ [] → (l : Link) → Contains links l ↔ IsEndedOn e x l
    one-ended k found is l = (
      (λ in_it. named l (found ∙ ap Some (only k l (subst (λ xs. Contains xs l) is in_it)))),
      (λ on. let same : k ≡ l = some_same k l (sym found ∙ names l on) in subst (λ xs. Contains xs l) (sym is) (subst (λ m. Contains (m ∷ []) l) (sym same) (Contains-push [] l))),
    )
      where
        some_same : {A : Type 0} (a b : A) → Some a ≡ Some b → a ≡ b
        some_same a b is = cc

    pub none-ended : link_named e x ≡ None → links ≡ [] → (l : Link) → Contains links l ↔ IsEndedOn e x l
    none-ended found is l = (
      (λ in_it. none_in l (subst (λ xs. Contains xs l) is in_it)),
      (λ on. let never : ◌≡◌ {A = Option Link} None (Some l) = sym found ∙ names l on in absurd cc),
    )

-- ---- the links of a connection

module _ (e : Event) (x : Channels) (links : List Link) where
  -- where the connection ends
  pub all-over : IsUnique nat_eq x.entries → ((session : Handles) → Contains (values x.entries) session → IsUnique nat_eq session.entries) → is_final e.moment ≡ true → links ≡ links_of x
      → (l : Link) → Contains links l ↔ IsEndedOf e x l
  all-over distinct each final is l = (
    (λ in_it. let on = stands-there x l distinct each (subst (λ xs. Contains xs l) is in_it) in (on.0, (on.1.0, (on.1.1, ap (λ b. b || is_number (channel_of e.moment) on.0 && ends_on on.1.0 e) final)))),
    (λ on. subst (λ xs. Contains xs l) (sym is) (standing-there x l on.0 on.1.0 on.1.1.0)),
  )

  -- of any other event
  module _ (going : is_final e.moment ≡ false) where
    on-channel : (channel handle : ℕ) → ends_at channel handle e ≡ true → (is_number (channel_of e.moment) channel ≡ true) × (ends_on handle e ≡ true)
    on-channel channel handle ends =
        and_both (is_number (channel_of e.moment) channel) (ends_on handle e) (sym (ap (λ b. b || is_number (channel_of e.moment) channel && ends_on handle e) going) ∙ ends)

    -- one on a channel of which something stands
    pub session-ended : (channel : ℕ) → channel_of e.moment ≡ Some channel → (session : Handles) → get nat_eq x.entries channel ≡ Some session
        → ((l : Link) → Contains links l ↔ IsEndedOn e session l) → (l : Link) → Contains links l ↔ IsEndedOf e x l
    session-ended channel on session found ended l = (
      (λ in_it. let is = (ended l).0 in_it in (
        channel,
        (
          is.0,
          (
            ap (λ o. link_of (unwrap_or (option_map (λ (y : Handles). standing_on y is.0) o) nothing)) found ∙ is.1.0,
            ap (λ b. b || is_number (channel_of e.moment) channel && ends_on is.0 e) going
                ∙ (ap (λ o. is_number o channel && ends_on is.0 e) on ∙ (ap (λ b. b && ends_on is.0 e) (eq-eqb channel channel refl) ∙ is.1.1)),
          ),
        ),
      )),
      (λ is. (ended l).1 (here is.0 is.1.0 (on-channel is.0 is.1.0 is.1.1.1) is.1.1.0)),
    )
      where
        here : (other handle : ℕ) → (is_number (channel_of e.moment) other ≡ true) × (ends_on handle e ≡ true) → link_of (standing_of x other handle) ≡ Some l → IsEndedOn e session l
        here other handle ends is =
            let same : channel ≡ other = eqb-true channel other (sym (ap (λ o. is_number o other) on) ∙ ends.0) in (
              handle,
              (
                sym (ap (λ o. link_of (unwrap_or (option_map (λ (y : Handles). standing_on y handle) o) nothing)) found)
                    ∙ (ap (λ n. link_of (unwrap_or (option_map (λ (y : Handles). standing_on y handle) (get nat_eq x.entries n)) nothing)) same ∙ is),
                ends.1,
              ),
            )

    -- one on no such channel
    pub nothing-ended : ((channel : ℕ) → is_number (channel_of e.moment) channel ≡ true → get nat_eq x.entries channel ≡ None) → links ≡ [] → (l : Link) → Contains links l ↔ IsEndedOf e x l
    nothing-ended none is l = (
      (λ in_it. none_in l (subst (λ xs. Contains xs l) is in_it)),
      (λ on. let there = on-channel on.0 on.1.0 on.1.1.1 in
          let never : ◌≡◌ {A = Option Link} None (Some l) =
          sym (ap (λ o. link_of (unwrap_or (option_map (λ (y : Handles). standing_on y on.1.0) o) nothing)) (none on.0 there.0)) ∙ on.1.1.0 in absurd cc),
    )
