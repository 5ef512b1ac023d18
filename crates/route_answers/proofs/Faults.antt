-- What a fault says of where the client's frame stands.
use Rattle.std.proofs.Common.{◌≡◌, refl, sym, ap, ◌∙◌, ℕ, ◌≤◌, Bool, true, false, not, List, [], ◌∷◌, length, Option, Some, None, is_some, nat_lt, if◌then◌else◌, ◌==◌}
use Rattle.std.specs.Prelude.{is_none}
use Rattle.std.proofs.lemmas.Bool.{ltb-false}
use Rattle.flow_counts.specs.declared.profile.TheConstants.{CHANNEL_MAX, HANDLE_MAX, MAX_LINK_NAME, MAX_ADDRESS}
use Rattle.amqp_perf.specs.declared.condition.ErrorCondition.{ErrorCondition}
use Rattle.amqp_perf.specs.declared.condition.ErrorCondition.TheVariants.{FramingError, NotAllowed, HandleInUse, ResourceLimitExceeded, UnattachedHandle, WindowViolation, NotImplemented, InvalidField}
use Rattle.amqp_perf.specs.declared.attach.Role.{Role}
use Rattle.amqp_perf.specs.declared.attach.Role.TheVariants.{Sender, Receiver}
use Rattle.amqp_perf.specs.Nested.{TerminusFields, TargetFields, ATerminus, ACoordinator, AddressFields, AText, AnOther}
use Rattle.amqp_perf.specs.Meaning.{AttachFields, TransferFields, flag}
use Rattle.capture_form.specs.Rules.{RuleSet, serves_anonymous}
use Rattle.trace_events.specs.declared.fault.Fault.{Fault}
use Rattle.trace_events.specs.declared.fault.Fault.TheVariants.{Close, End, Refuse, Detach}
use Rattle.trace_events.specs.declared.session.Session.{Session}
use Rattle.trace_events.specs.Frame.{Spoken}
use Rattle.trace_events.specs.Event.{Event, Link}
use Rattle.trace_events.specs.Connection.{has_in_open}
use Rattle.trace_events.specs.Fault.{on_session_fault, session_fault, attach_fault, terminus_fault, target_fault, target_address_fault, source_fault, source_address_fault, address_fault, is_handle_in_use, transfer_fault, attached_fault, handle_fault}
use Rattle.trace_events.specs.Window.{given_window}
use Rattle.route_answers.proofs.Words.{not_this}

-- the fault closes the connection
abbrev pub closes : Option Fault → Bool
closes (Some (Close condition)) = true
closes (Some (End condition)) = false
closes (Some (Refuse condition)) = false
closes (Some (Detach condition)) = false
closes None = false

-- it ends the session
abbrev pub ends : Option Fault → Bool
ends (Some (End condition)) = true
ends (Some (Close condition)) = false
ends (Some (Refuse condition)) = false
ends (Some (Detach condition)) = false
ends None = false

not_closing : (condition : ErrorCondition) (z : Option Fault) → closes z ≡ false → Some (Close condition) ≡ z → ⊥
not_closing condition z other is = let never : true ≡ false = ap closes is ∙ other in absurd cc

-- what no fault of the connection stops
pub unless_closed : (b : Bool) (condition : ErrorCondition) (y z : Option Fault) → closes z ≡ false → (if b then Some (Close condition) else y) ≡ z → (b ≡ false) × (y ≡ z)
unless_closed b condition y z other is = not_this b (Some (Close condition)) y z (not_closing condition z other) is

not_false : (b : Bool) → not b ≡ false → b ≡ true
not_false true is = refl
not_false false is = absurd cc

-- behind the client's open, on a channel that may be used
pub behind_open : (opened far : Bool) (y z : Option Fault) → closes z ≡ false → (if not opened then Some (Close NotAllowed) else if far then Some (Close FramingError) else y) ≡ z
    → (opened ≡ true) × (y ≡ z)
behind_open opened far y z other is =
    let one = unless_closed (not opened) NotAllowed (if far then Some (Close FramingError) else y) z other is in
    (not_false opened one.0, (unless_closed far FramingError y z other one.1).1)

module _ (rules : RuleSet) (e : Event) (spoken : Spoken) (past : List Event) where
  pub record StandsOn (z : Option Fault) : Type 0 where
    pub session : Session
    pub live : e.session ≡ Some session
    pub opened : has_in_open e.connection past ≡ true
    pub fault : session_fault rules session e spoken spoken.meaning past ≡ z

  on_some : (o : Option Session) (z : Option Fault) → closes z ≡ false → on_session_fault rules e spoken past o ≡ z
      → (s : Session) × (o ≡ Some s) × (session_fault rules s e spoken spoken.meaning past ≡ z)
  on_some None z other is = absurd (not_closing NotAllowed z other is)
  on_some (Some s) z other is = (s, refl, is)

  -- a frame that needs a session, and has no fault that closes the connection, stands on one
  pub on_session : (z : Option Fault) → closes z ≡ false
      → (if not (has_in_open e.connection past) then Some (Close NotAllowed) else if nat_lt CHANNEL_MAX spoken.channel then Some (Close FramingError) else on_session_fault rules e spoken past e.session) ≡ z
      → StandsOn z
  on_session z other is =
      let one = behind_open (has_in_open e.connection past) (nat_lt CHANNEL_MAX spoken.channel) (on_session_fault rules e spoken past e.session) z other is in
      let two = on_some e.session z other one.1 in
      record { session = two.0; live = two.1; opened = one.0; fault = two.2 }

-- ---- attaches

not_end : (condition : ErrorCondition) (z : Option Fault) → ends z ≡ false → Some (End condition) ≡ z → ⊥
not_end condition z other is = let never : true ≡ false = ap ends is ∙ other in absurd cc

-- one that is accepted or refused has a name that is short enough
pub attach_named : (rules : RuleSet) (s : Session) (fields : AttachFields) (past : List Event) (z : Option Fault) → closes z ≡ false → ends z ≡ false → attach_fault rules s fields past ≡ z
    → (length fields.name ≤ MAX_LINK_NAME) × (terminus_fault rules fields fields.role ≡ z)
attach_named rules s fields past z other unended is =
    let one = unless_closed (nat_lt HANDLE_MAX fields.handle) FramingError _ z other is in
    let two = unless_closed (is_handle_in_use s fields.handle past) HandleInUse _ z other one.1 in
    let three = not_this (nat_lt MAX_LINK_NAME (length fields.name)) (Some (End ResourceLimitExceeded)) (terminus_fault rules fields fields.role) z (not_end ResourceLimitExceeded z unended) two.1 in
    (ltb-false MAX_LINK_NAME (length fields.name) three.0, three.1)

-- ---- links

-- what has no such fault names a link
pub names_link : (e : Event) → handle_fault e ≡ None → is_some e.link ≡ true
names_link e is = by e.link is
  where
    by : (o : Option Link) → (if is_none o then Some (End UnattachedHandle) else None) ≡ None → is_some o ≡ true
    by None is = absurd cc
    by (Some l) is = refl

attached_link : (rules : RuleSet) (fields : TransferFields) (octets : List ℕ) (past : List Event) (condition : ErrorCondition) (o : Option Link)
    → attached_fault rules fields octets past o ≡ Some (Detach condition) → is_some o ≡ true
attached_link rules fields octets past condition None is = absurd cc
attached_link rules fields octets past condition (Some l) is = refl

-- a transfer that detaches names a link
pub detached_link : (rules : RuleSet) (s : Session) (e : Event) (fields : TransferFields) (octets : List ℕ) (past : List Event) (condition : ErrorCondition)
    → transfer_fault rules s e fields octets past ≡ Some (Detach condition) → is_some e.link ≡ true
detached_link rules s e fields octets past condition is =
    let one = not_this (given_window s past == 0) (Some (End WindowViolation)) (attached_fault rules fields octets past e.link) (Some (Detach condition)) never is in
    attached_link rules fields octets past condition e.link one.1
  where
    never : Some (End WindowViolation) ≡ Some (Detach condition) → ⊥
    never is = absurd cc

-- ---- what is wrong with a source or a target refuses the attach

abbrev pub refuses : Option Fault → Bool
refuses (Some (Refuse condition)) = true
refuses (Some (Close condition)) = false
refuses (Some (End condition)) = false
refuses (Some (Detach condition)) = false
refuses None = true

either : (b : Bool) (x y : Option Fault) → refuses x ≡ true → refuses y ≡ true → refuses (if b then x else y) ≡ true
either true x y one other = one
either false x y one other = other

address_refuses : (address : AddressFields) → refuses (address_fault address) ≡ true
address_refuses (AnOther octets) = refl
address_refuses (AText []) = refl
address_refuses (AText (octet ∷ rest)) = either (nat_lt MAX_ADDRESS (length (octet ∷ rest))) (Some (Refuse ResourceLimitExceeded)) None refl refl

target_refuses : (rules : RuleSet) (target : Option TargetFields) → refuses (target_fault rules target) ≡ true
target_refuses rules None = refl
target_refuses rules (Some ACoordinator) = refl
target_refuses rules (Some (ATerminus target)) = either (flag target.dynamic) (Some (Refuse NotImplemented)) (target_address_fault rules target.address) refl (by target.address)
  where
    by : (o : Option AddressFields) → refuses (target_address_fault rules o) ≡ true
    by None = either (serves_anonymous rules) None (Some (Refuse NotImplemented)) refl refl
    by (Some address) = address_refuses address

source_refuses : (source : Option TerminusFields) → refuses (source_fault source) ≡ true
source_refuses None = refl
source_refuses (Some source) = either (flag source.dynamic) None (source_address_fault source.address) refl (by source.address)
  where
    by : (o : Option AddressFields) → refuses (source_address_fault o) ≡ true
    by None = refl
    by (Some address) = address_refuses address

terminus_refuses : (rules : RuleSet) (fields : AttachFields) (role : Role) → refuses (terminus_fault rules fields role) ≡ true
terminus_refuses rules fields Sender =
    either (is_none fields.initial_delivery_count) (Some (Refuse InvalidField)) (target_fault rules fields.target) refl (target_refuses rules fields.target)
terminus_refuses rules fields Receiver = source_refuses fields.source

pub no_attach : (rules : RuleSet) (fields : AttachFields) (condition : ErrorCondition) → terminus_fault rules fields fields.role ≡ Some (Detach condition) → ⊥
no_attach rules fields condition is = let never : false ≡ true = sym (ap refuses is) ∙ terminus_refuses rules fields fields.role in absurd cc
