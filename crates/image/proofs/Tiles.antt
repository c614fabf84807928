-- Runs that follow each other with no gap, and that no two neighbours of them have the same pair, by what each instant answers. Assumes
-- nothing.
use Prim.Native.Nat.{ℕ, suc, ◌-◌, ◌≤◌, ◌<◌}
use mathlib.Core.Path.{◌≡◌, refl, sym, ap, ◌∙◌, subst}
use mathlib.Core.Logic.{◌↔◌}
use mathlib.Core.Bool.{Bool, true, false, not, ◌&&◌, true≢false, false≢true}
use mathlib.Core.List.{List, [], ◌∷◌, ◌++◌, map}
use native.Mathlib.Omega.{arith}
use native.Mathlib.Decide.{dec_lt}
use Rattle.lists.specs.Lists.{All, all_none, all_more}
use Rattle.lists.proofs.All.{all_head, all_tail}
use Rattle.rule.specs.declared.Pair.{Pair}
use Rattle.rule.specs.Pairs.{same_pair}
use Rattle.rule.proofs.Tests.{both, fails}
use Rattle.rule.proofs.Laws.{same_pair_is}
use Rattle.image.specs.Listing.{Run, differ_after, neighbours_differ}

-- The runs of [a, b): the first starts at a, each ends where the next one starts and the last at b, and every instant of a run has its pair
-- by Q.
pub data Tiles (Q : ℕ → Pair → Type 0) : ℕ → ℕ → List Run → Type 0 where
  done : {a : ℕ} → Tiles Q a a []
  more : {a m b : ℕ} {r : Run} {rs : List Run} → r.start ≡ a → a < m → ((t : ℕ) → a ≤ t → t < m → Q t r.pair) → Tiles Q m b rs
      → Tiles Q a b (r ∷ rs)

module _ {Q : ℕ → Pair → Type 0} where
  pub tiles_none : {a b : ℕ} → a ≡ b → Tiles Q a b []
  tiles_none {a} {b} e = subst (λ (x : ℕ). Tiles Q a x []) e done

  pub tiles_one : {a b : ℕ} {r : Run} → r.start ≡ a → a < b → ((t : ℕ) → a ≤ t → t < b → Q t r.pair) → Tiles Q a b (r ∷ [])
  tiles_one s l q = more s l q done

  pub tiles_append : {a m b : ℕ} {xs ys : List Run} → Tiles Q a m xs → Tiles Q m b ys → Tiles Q a b (xs ++ ys)
  tiles_append done v = v
  tiles_append (more s l q u) v = more s l q (tiles_append u v)

  pub tiles_le : {a b : ℕ} {rs : List Run} → Tiles Q a b rs → a ≤ b
  tiles_le done = omega arith
  tiles_le (more s l q u) = let k = tiles_le u in omega arith

  -- every instant of the span is in a run
  pub tiles_at : {a b : ℕ} {rs : List Run} → Tiles Q a b rs → (t : ℕ) → a ≤ t → t < b → (p : Pair) × Q t p
  tiles_at done t l g = absurd (omega arith)
  tiles_at (more {m = m} {b = b} {r = r} s k q u) t l g = here (dec_lt t m) (tiles_at u t)
    where
      here : Dec (t < m) → (m ≤ t → t < b → (p : Pair) × Q t p) → (p : Pair) × Q t p
      here (yes c) rest = (r.pair, q t l c)
      here (no c) rest = rest (omega arith) g

  -- another pair at each instant
  pub tiles_map : {R : ℕ → Pair → Type 0} (g : Pair → Pair) {a b : ℕ} {rs : List Run} → Tiles Q a b rs
      → ((t : ℕ) (p : Pair) → a ≤ t → t < b → Q t p → R t (g p))
      → Tiles R a b (map (λ r. record { start = r.start; pair = g r.pair }) rs)
  tiles_map g done f = done
  tiles_map g (more s l q u) f =
      let k = tiles_le u in
      more s l (λ t x y. f t _ x (omega arith) (q t x y)) (tiles_map g u (λ t p x y. f t p (omega arith) y))

  -- the same runs, of which something else holds
  pub tiles_weaken : {R : ℕ → Pair → Type 0} {a b : ℕ} {rs : List Run} → Tiles Q a b rs
      → ((t : ℕ) (p : Pair) → a ≤ t → t < b → Q t p → R t p) → Tiles R a b rs
  tiles_weaken done f = done
  tiles_weaken (more s l q u) f =
      let k = tiles_le u in
      more s l (λ t x y. f t _ x (omega arith) (q t x y)) (tiles_weaken u (λ t p x y. f t p (omega arith) y))

-- ---- neighbours

module _ (answer : ℕ → Pair) where
  -- the answer at t isn't that of the instant before
  abbrev pub Turns : ℕ → Type 0
  Turns t = 0 < t → answer t ≡ answer (t - 1) → ⊥

  abbrev Answers : ℕ → Pair → Type 0
  Answers t p = answer t ≡ p

  differ_turns : {m b : ℕ} {rs : List Run} (p : Pair) → Tiles Answers m b rs → 0 < m → answer (m - 1) ≡ p
      → (differ_after p rs ≡ true) ↔ All (λ r. Turns r.start) rs
  unfolding differ_after
  differ_turns p done some last = (λ e. all_none, λ a. refl)
  differ_turns p (more {a = a} {m = m} {r = r} {rs = rs} s l q u) some last =
      let rest = differ_turns r.pair u (omega arith) (q (m - 1) (omega arith) (omega arith)) in
      let w =
      both (not (same_pair p r.pair)) (differ_after r.pair rs)
      (not_is (same_pair p r.pair) (same_pair_is p r.pair)) rest in (
        λ e. all_more (λ k h. (w.0 e).0 (sym last ∙ (sym (here h) ∙ q a (omega arith) l))) (w.0 e).1,
        λ v. w.1 (
          λ h. all_head v (omega arith) (subst (λ z. answer z ≡ answer (z - 1)) (sym s) (q a (omega arith) l ∙ (sym h ∙ sym last))),
          all_tail v,
        ),
      )
    where
      here : answer r.start ≡ answer (r.start - 1) → answer a ≡ answer (a - 1)
      here h = subst (λ z. answer z ≡ answer (z - 1)) s h

      not_is : {P : Type 0} (b : Bool) → (b ≡ true) ↔ P → (not b ≡ true) ↔ (P → ⊥)
      not_is true e = (λ h. absurd (false≢true h), λ k. absurd (k (e.0 refl)))
      not_is false e = (λ h k. false≢true (e.1 k), λ k. refl)

  -- runs from 0 on: no two neighbours have the same pair exactly if each run but the first begins where the answer turns
  pub neighbours_turn : {b : ℕ} {rs : List Run} → Tiles Answers 0 b rs
      → (neighbours_differ rs ≡ true) ↔ All (λ r. Turns r.start) rs
  unfolding neighbours_differ
  neighbours_turn done = (λ e. all_none, λ a. refl)
  neighbours_turn (more {m = m} {r = r} s l q u) =
      let w = differ_turns r.pair u (omega arith) (q (m - 1) (omega arith) (omega arith)) in
      (λ e. all_more (λ (k : 0 < r.start) h. absurd (omega (arith, s, k))) (w.0 e), λ v. w.1 (all_tail v))
