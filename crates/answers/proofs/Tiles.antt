-- What runs that tile a span come to when joined: the runs of the span's instants. Assumes nothing.
use Prim.Native.Nat.{ℕ, zero, suc, ◌+◌, ◌-◌, ◌≤◌, ◌<◌}
use mathlib.Core.Path.{◌≡◌, refl, sym, ap, ◌∙◌, subst, subst⁻¹}
use mathlib.Core.Bool.{Bool, true, false, cond}
use mathlib.Core.List.{List, [], ◌∷◌, ◌++◌, map}
use native.Mathlib.Omega.{arith}
use native.Mathlib.Decide.{dec_lt}
use Rattle.lists.specs.Lists.{All, all_none, all_more}
use Rattle.rule.specs.declared.Pair.{Pair}
use Rattle.rule.specs.Pairs.{same_pair}
use Rattle.rule.proofs.Laws.{same_pair_is}
use Rattle.image.specs.Listing.{Run, join_after, join}
use Rattle.image.proofs.Tiles.{Tiles, done, more, tiles_one, tiles_le}
use Rattle.book.specs.Book.{runs_after, runs_of}

-- ---- the runs of instants

module _ (f : ℕ → Pair) where
  runs_more : (t k : ℕ) (R : List Run) → runs_after f (suc t) k ≡ R
      → runs_after f t (suc k) ≡ cond (same_pair (f t) (f (suc t))) R (record { start = suc t; pair = f (suc t) } ∷ R)
  unfolding runs_after
  runs_more t k R e = ap (λ r. cond (same_pair (f t) (f (suc t))) r (record { start = suc t; pair = f (suc t) } ∷ r)) e

  -- as long as the pair is the same no run begins
  runs_skip : (d t n k u : ℕ) → n ≡ d + k → u ≡ t + d → ((i : ℕ) → t ≤ i → i < u → f i ≡ f (suc i)) → runs_after f t n ≡ runs_after f u k
  runs_skip zero t n k u e d s =
      let en : n ≡ k = omega arith in
      let eu : t ≡ u = omega arith in
      λ j. runs_after f (eu j) (en j)
  runs_skip (suc d) t n k u e x s =
      let en : n ≡ suc (d + k) = omega arith in
      ap (runs_after f t) en
      ∙ runs_more t (d + k) (runs_after f u k) (runs_skip d (suc t) (d + k) k u refl (omega arith) (λ i l m. s i (omega arith) m))
      ∙ ap (λ c. cond c (runs_after f u k) (record { start = suc t; pair = f (suc t) } ∷ runs_after f u k))
      ((same_pair_is (f t) (f (suc t))).1 (s t (omega arith) (omega arith)))

-- instants with the same pairs have the same runs
runs_after_same : (f g : ℕ → Pair) (t k : ℕ) → ((i : ℕ) → t ≤ i → i ≤ t + k → f i ≡ g i) → runs_after f t k ≡ runs_after g t k
unfolding runs_after
runs_after_same f g t zero e = refl
runs_after_same f g t (suc k) e =
    let a : f t ≡ g t = e t (omega arith) (omega arith) in
    let b : f (suc t) ≡ g (suc t) = e (suc t) (omega arith) (omega arith) in
    let r : runs_after f (suc t) k ≡ runs_after g (suc t) k = runs_after_same f g (suc t) k (λ i l m. e i (omega arith) (omega arith)) in
    λ j. cond (same_pair (a j) (b j)) (r j) (record { start = suc t; pair = b j } ∷ r j)

pub runs_of_same : (f g : ℕ → Pair) (a b : ℕ) → a < b → ((t : ℕ) → a ≤ t → t < b → f t ≡ g t) → runs_of f a b ≡ runs_of g a b
unfolding runs_of
runs_of_same f g a b l e =
    let x : f a ≡ g a = e a (omega arith) l in
    let r : runs_after f a (b - suc a) ≡ runs_after g a (b - suc a) = runs_after_same f g a (b - suc a) (λ i k m. e i k (omega arith)) in
    λ j. record { start = a; pair = x j } ∷ r j

-- ---- joined

join_more : (p : Pair) (r : Run) (rs R : List Run) → join_after r.pair rs ≡ R
    → join_after p (r ∷ rs) ≡ cond (same_pair p r.pair) R (r ∷ R)
unfolding join_after
join_more p r rs R e = go (same_pair p r.pair) refl
  where
    go : (c : Bool) → same_pair p r.pair ≡ c → cond c (join_after p rs) (r ∷ join_after r.pair rs) ≡ cond c R (r ∷ R)
    go true s = ap (λ q. join_after q rs) ((same_pair_is p r.pair).0 s) ∙ e
    go false s = ap (λ l. r ∷ l) e

module _ {Q : ℕ → Pair → Type 0} (f : ℕ → Pair) (is : (t : ℕ) (p : Pair) → Q t p → f t ≡ p) where
  -- within a run the pair stays
  steady : {a m : ℕ} {p : Pair} → ((t : ℕ) → a ≤ t → t < m → Q t p) → (i : ℕ) → a ≤ i → suc i < m → f i ≡ f (suc i)
  steady {p = p} q i l k = is i p (q i l (omega arith)) ∙ sym (is (suc i) p (q (suc i) (omega arith) k))

  -- the runs behind instant t
  join_behind : {m b : ℕ} {rs : List Run} → Tiles Q m b rs → (t : ℕ) → suc t ≡ m → join_after (f t) rs ≡ runs_after f t (b - m)
  unfolding join_after runs_after
  join_behind (done {a = a}) t e =
      let z : a - a ≡ 0 = omega arith in
      sym (ap (runs_after f t) z)
  join_behind (more {a = m} {m = m'} {b = b} {r = r} {rs = rs} s l q u) t e =
      let k = tiles_le u in
      let v : ℕ = m' - 1 in
      let rest : join_after (f v) rs ≡ runs_after f v (b - m') = join_behind u v (omega arith) in
      let last : f v ≡ r.pair = is v r.pair (q v (omega arith) (omega arith)) in
      let next : r.pair ≡ f (suc t) = sym (is (suc t) r.pair (q (suc t) (omega arith) (omega arith))) in
      let from : r.start ≡ suc t = s ∙ sym e in
      let R : List Run = runs_after f v (b - m') in
      let skipped : runs_after f (suc t) (b - suc m) ≡ R =
      runs_skip f (v - m) (suc t) (b - suc m) (b - m') v (omega arith) (omega arith) (λ i x y. steady q i (omega arith) (omega arith)) in
      let one : b - m ≡ suc (b - suc m) = omega arith in
      join_more (f t) r rs R (ap (λ p. join_after p rs) (sym last) ∙ rest)
      ∙ (λ j. cond (same_pair (f t) (next j)) R (record { start = from j; pair = next j } ∷ R))
      ∙ sym (ap (runs_after f t) one ∙ runs_more f t (b - suc m) R skipped)

  -- the joined runs of a span are those of its instants
  pub join_tiles : {a b : ℕ} {rs : List Run} → Tiles Q a b rs → a < b → join rs ≡ runs_of f a b
  unfolding join runs_of
  join_tiles done l = absurd (omega arith)
  join_tiles (more {a = a} {m = m} {b = b} {r = r} {rs = rs} s k q u) l =
      let g = tiles_le u in
      let v : ℕ = m - 1 in
      let rest : join_after (f v) rs ≡ runs_after f v (b - m) = join_behind u v (omega arith) in
      let last : f v ≡ r.pair = is v r.pair (q v (omega arith) (omega arith)) in
      let first : r.pair ≡ f a = sym (is a r.pair (q a (omega arith) k)) in
      let tail : join_after r.pair rs ≡ runs_after f a (b - suc a) =
      ap (λ p. join_after p rs) (sym last)
      ∙ rest
      ∙ sym (runs_skip f (v - a) a (b - suc a) (b - m) v (omega arith) (omega arith) (λ i x y. steady q i x (omega arith))) in
      λ j. record { start = s j; pair = first j } ∷ tail j

-- ---- and back: the runs of a span's instants tile it

module _ (f : ℕ → Pair) where
  -- a run that has lasted from a to t, and those behind it
  tiles_after : (a t k : ℕ) (p : Pair) → a ≤ t → ((u : ℕ) → a ≤ u → u ≤ t → f u ≡ p)
      → Tiles (λ u q. f u ≡ q) a (suc (t + k)) (record { start = a; pair = p } ∷ runs_after f t k)
  unfolding runs_after
  tiles_after a t zero p le lasts =
      let e : suc (t + 0) ≡ suc t = omega arith in
      subst⁻¹ (λ b. Tiles (λ u q. f u ≡ q) a b (record { start = a; pair = p } ∷ [])) e
      (tiles_one refl (omega arith) (λ u l g. lasts u l (omega arith)))
  tiles_after a t (suc k) p le lasts =
      go (same_pair (f t) (f (suc t))) refl (λ same. tiles_after a (suc t) k p (omega arith) (longer same))
      (tiles_after (suc t) (suc t) k (f (suc t)) (omega arith)
      (λ u l g.
      let e : u ≡ suc t = omega arith in
      ap f e))
    where
      longer : f (suc t) ≡ p → (u : ℕ) → a ≤ u → u ≤ suc t → f u ≡ p
      longer same u l g = at (dec_lt t u)
        where
          at : Dec (t < u) → f u ≡ p
          at (yes h) =
              let e : u ≡ suc t = omega arith in
              ap f e ∙ same
          at (no h) = lasts u l (omega arith)

      go : (c : Bool) → same_pair (f t) (f (suc t)) ≡ c
          → (f (suc t) ≡ p → Tiles (λ u q. f u ≡ q) a (suc (suc t + k)) (record { start = a; pair = p } ∷ runs_after f (suc t) k))
          → Tiles (λ u q. f u ≡ q) (suc t) (suc (suc t + k)) (record { start = suc t; pair = f (suc t) } ∷ runs_after f (suc t) k)
          → Tiles (λ u q. f u ≡ q) a (suc (t + suc k))
          (record { start = a; pair = p }
          ∷ cond c (runs_after f (suc t) k) (record { start = suc t; pair = f (suc t) } ∷ runs_after f (suc t) k))
      go true same on next =
          let e : suc (t + suc k) ≡ suc (suc t + k) = omega arith in
          rw e (on (sym ((same_pair_is (f t) (f (suc t))).0 same) ∙ lasts t le (omega arith)))
      go false other on next =
          let e : suc (t + suc k) ≡ suc (suc t + k) = omega arith in
          rw e (more {a = a} {m = suc t} refl (omega arith) (λ u l g. lasts u l (omega arith)) next)

  pub tiles_of_runs : (a b : ℕ) → a < b → Tiles (λ u q. f u ≡ q) a b (runs_of f a b)
  unfolding runs_of
  tiles_of_runs a b lt =
      let e : b ≡ suc (a + (b - suc a)) = omega arith in
      subst⁻¹ (λ end. Tiles (λ u q. f u ≡ q) a end (runs_of f a b)) e
      (tiles_after a a (b - suc a) (f a) (omega arith)
      (λ u l g.
      let e : u ≡ a = omega arith in
      ap f e))

-- what holds of every pair holds of each run's
pub tiles_all : {Q : ℕ → Pair → Type 0} {R : Pair → Type 0} {a b : ℕ} {rs : List Run} → Tiles Q a b rs
    → ((t : ℕ) (p : Pair) → a ≤ t → t < b → Q t p → R p) → All (λ (r : Run). R r.pair) rs
tiles_all done h = all_none
tiles_all (more {r = r} s l q u) h =
    all_more {x = r} (h _ _ (omega arith) (omega (arith, tiles_le u)) (q _ (omega arith) l))
    (tiles_all u (λ t p x y. h t p (omega arith) y))
