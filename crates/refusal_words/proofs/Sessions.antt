-- What one event more does to a session and its links.
use Rattle.std.proofs.Common.{◌≡◌, refl, sym, ap, ◌∙◌, subst, ℕ, List, ◌∷◌, Option, Some, None, option_map}
use Rattle.std.specs.List.{cons_option}
use Rattle.refusal_words.specs.declared.session.Opened.{Opened}
use Rattle.refusal_words.specs.declared.session.SessionOrigin.{SessionOrigin}
use Rattle.refusal_words.specs.Session.{SessionChange, SessionEvent, SessionTold, Changes, OurBegin, OurTransfer, TheirFlow, began, fresh_session, last_begin, lives, opened, sent, told, window}
use Rattle.refusal_words.specs.Link.{LinkEvent, Over}
use Rattle.refusal_words.specs.Tables.{ChannelStands, SessionMoves, SessionStands, Stands, link_next, link_on, session_told, told_next}
use Rattle.refusal_words.proofs.Links.{most-more, link-step}

abbrev pub changing : Option SessionChange → Option SessionEvent
changing change = option_map Changes change

lives-same : (change : Option SessionChange) (events : List SessionEvent) → lives (cons_option (changing change) events) ≡ lives events
lives-same None events = refl
lives-same (Some (TheirFlow number flow)) events = refl
lives-same (Some OurTransfer) events = refl

begin-same : (change : Option SessionChange) (events : List SessionEvent) → last_begin (cons_option (changing change) events) ≡ last_begin events
begin-same None events = refl
begin-same (Some (TheirFlow number flow)) events = refl
begin-same (Some OurTransfer) events = refl

told-step : (change : Option SessionChange) (events : List SessionEvent) → told (cons_option (changing change) events) ≡ told_next change (told events)
told-step None events = refl
told-step (Some (TheirFlow number flow)) events = refl
told-step (Some OurTransfer) events =
    let made : ℕ → SessionTold = λ n. record { number = began events; opened = opened events; window = window events; sent = n } in
    ap made (most-more (sent events))

-- a session that lives, with a change of its window and events of its links
moved : (change : Option SessionChange) (said : ℕ → Option LinkEvent) (s t : SessionOrigin) → SessionMoves change said s t
    → (events : List SessionEvent) (links : ℕ → List LinkEvent) → Stands s events links
    → Stands t (cons_option (changing change) events) (λ handle. cons_option (said handle) (links handle))
moved change said s t moves events links stands = record {
  is_live = lives-same change events ∙ stands.is_live;
  told_of = moves.told ∙ (ap (told_next change) stands.told_of ∙ sym (told-step change events));
  links = λ handle. moves.links handle ∙ (ap (link_next (said handle)) (stands.links handle) ∙ sym (link-step (said handle) (links handle)));
}

-- the entry of its channel, before and behind it
pub entry-moved : (change : Option SessionChange) (said : ℕ → Option LinkEvent) (s t : SessionOrigin) → SessionMoves change said s t
    → (opening : Option Opened) (x y : Option SessionOrigin) → x ≡ Some s → y ≡ Some t
    → (events : List SessionEvent) (links : ℕ → List LinkEvent) → ChannelStands opening x events links
    → ChannelStands opening y (cons_option (changing change) events) (λ handle. cons_option (said handle) (links handle))
entry-moved change said s t moves opening x y was is events links stands =
    let At : Option SessionOrigin → Type 0 = λ o. SessionStands o events links in
    let Behind : Option SessionOrigin → Type 0 = λ o. SessionStands o (cons_option (changing change) events) (λ handle. cons_option (said handle) (links handle)) in
    record {
      begin = stands.begin ∙ sym (begin-same change events);
      session = subst Behind (sym is) (moved change said s t moves events links (subst At was stands.session));
    }

-- a session begins
pub entry-begun : (number : ℕ) (t : SessionOrigin) (opening : Option Opened) (x y : Option SessionOrigin) → y ≡ Some t
    → session_told t ≡ fresh_session number opening → ((handle : ℕ) → link_on t handle ≡ None)
    → (events : List SessionEvent) (links : ℕ → List LinkEvent) → ChannelStands opening x events links
    → ChannelStands opening y (OurBegin number ∷ events) (λ handle. Over ∷ links handle)
entry-begun number t opening x y is fresh none events links stands =
    let Behind : Option SessionOrigin → Type 0 = λ o. SessionStands o (OurBegin number ∷ events) (λ handle. Over ∷ links handle) in
    let here : Stands t (OurBegin number ∷ events) (λ handle. Over ∷ links handle) = record {
      is_live = refl;
      told_of = fresh ∙ ap (fresh_session number) stands.begin;
      links = none;
    } in
    record { begin = stands.begin; session = subst Behind (sym is) here }
