-- Links are detached one after the other, each behind those before it.
use Rattle.std.proofs.Common.{◌≡◌, refl, sym, ap, subst, ◌∙◌, ◌<◌, ◌≤◌, ◌+◌, ℕ, Bool, true, false, ◌&&◌, ◌||◌, List, [], ◌∷◌, ◌++◌, cond, filter, get_or, length, map, take, ◌==◌}
use Rattle.std.specs.List.{list_any}
use Rattle.std.proofs.lemmas.List.{take_all}
use Rattle.std.proofs.lemmas.List.Folds.{list_any_more}
use Rattle.flow_counts.specs.Picks.{AddressEvent, Detached}
use Rattle.address_table.specs.declared.table.Table.{Table}
use Rattle.trace_events.specs.Event as law
use Rattle.trace_events.specs.Link.{is_consumer}
use Rattle.trace_events.specs.View.{link_view}
use Rattle.trace_events.specs.declared.event.Link.{Link}
use Rattle.state_tables.specs.EndedLinks.{views}
use Rattle.due_lists.specs.AddressCounts.{CountsMore, DetachesAll, detached_all}
use Rattle.due_lists.proofs.Moves.{counts-then}

-- those up to the i-th are
abbrev pub AreDetached : List Link → ℕ → Table → Table → Type 0
AreDetached links i earlier later =
    (gone : List law.Link) × ((test : law.Link → Bool) → list_any test gone ≡ list_any (λ l. test (link_view l)) (take i links)) × CountsMore (detached_all gone) earlier later

or-turned : (a b : Bool) → a || b ≡ b || a
or-turned true true = refl
or-turned true false = refl
or-turned false true = refl
or-turned false false = refl

more-detached : (l : law.Link) (ls : List law.Link) → detached_all (l ∷ []) ++ detached_all ls ≡ detached_all (l ∷ ls)
more-detached l ls = by (is_consumer l)
  where
    detached : List law.Link → List AddressEvent
    detached = map (λ m. Detached m.number)

    by : (b : Bool) → detached (cond b (l ∷ []) []) ++ detached (filter is_consumer ls) ≡ detached (cond b (l ∷ filter is_consumer ls) (filter is_consumer ls))
    by true = refl
    by false = refl

pub detached-next : (links : List Link) (i : ℕ) (d : Link) → i < length links → (a b c : Table) → AreDetached links i a b → CountsMore (detached_all (link_view (get_or links i d) ∷ [])) b c
    → AreDetached links (i + 1) a c
detached-next links i d lt a b c was one =
    let x = link_view (get_or links i d) in (
      x ∷ was.0,
      λ test. ap (λ o. test x || o) (was.1 test)
          ∙ (or-turned (test x) (list_any (λ l. test (link_view l)) (take i links)) ∙ sym (list_any_more (λ l. test (link_view l)) links i d lt)),
      subst (λ (events : List AddressEvent). CountsMore events a c) (more-detached x was.0) (counts-then (detached_all was.0) (detached_all (x ∷ [])) a b c was.2 one),
    )

any-view : (test : law.Link → Bool) (links : List Link) → list_any (λ l. test (link_view l)) links ≡ list_any test (views links)
any-view test [] = refl
any-view test (l ∷ links) = ap (λ o. test (link_view l) || o) (any-view test links)

pub all-detached : (links : List Link) (i : ℕ) → length links ≤ i → (a b : Table) → AreDetached links i a b → DetachesAll (views links) a b
all-detached links i le a b was = record {
  detached = was.0;
  same = λ test. was.1 test ∙ (ap (list_any (λ l. test (link_view l))) (take_all i links le) ∙ any-view test links);
  counted = was.2;
}

-- the same consumers' links are among them, by their numbers
any-passing : (test passes : law.Link → Bool) (ls : List law.Link) → list_any test (filter passes ls) ≡ list_any (λ l. passes l && test l) ls
any-passing test passes [] = refl
any-passing test passes (l ∷ ls) = by (passes l) (any-passing test passes ls)
  where
    by : (b : Bool) → list_any test (filter passes ls) ≡ list_any (λ m. passes m && test m) ls
        → list_any test (cond b (l ∷ filter passes ls) (filter passes ls)) ≡ (b && test l) || list_any (λ m. passes m && test m) ls
    by true rest = ap (λ o. test l || o) rest
    by false rest = rest

pub same-consumers : (gone links : List law.Link) → ((test : law.Link → Bool) → list_any test gone ≡ list_any test links) → (n : ℕ)
    → list_any (λ l. n == l.number) (filter is_consumer gone) ≡ list_any (λ l. n == l.number) (filter is_consumer links)
same-consumers gone links same n =
    any-passing (λ l. n == l.number) is_consumer gone ∙ (same (λ l. is_consumer l && n == l.number) ∙ sym (any-passing (λ l. n == l.number) is_consumer links))
