-- The entry that has an instant: it stands in its page, and it is the last that starts at the instant or before. Assumes nothing.
use Prim.Native.Nat.{ℕ, zero, suc, ◌+◌, ◌≤◌, ◌<◌, min}
use mathlib.Core.Path.{◌≡◌, refl, sym, ap, ◌∙◌}
use mathlib.Core.Bool.{Bool, true, false, cond}
use mathlib.Core.List.{List, [], ◌∷◌, ◌++◌}
use native.Mathlib.Decide.{dec_lt}
use native.Mathlib.Omega.{arith}
use lib.Dec.{leb}
use lib.ListN.{length}
use borrow.Author.Tests.{leb-true, leb-false, le-leb, lt-leb}
use Rattle.lists.specs.Lists.{listed}
use Rattle.lists.proofs.Choices.{cond_one, either}
use Rattle.lists.proofs.Listed.{length_listed, listed_get_or}
use Rattle.page.specs.declared.Entry.{Entry}
use Rattle.page.specs.Entries.{no_entry, at, last_from, index_of}
use Rattle.page.specs.Layout.{capacity, entry_count, start_at, entry_at, entries_of}

last_in : (t i found n : ℕ) (es : List Entry) → found < n → i + length es ≤ n → last_from t i found es < n
unfolding last_from
last_in t i found n [] h m = h
last_in t i found n (e ∷ es) h m =
    last_in t (suc i) (cond (leb e.start t) i found) n es (either (λ k. k < n) (omega arith) h (leb e.start t)) (omega arith)

pub index_in : (t : ℕ) (es : List Entry) → 1 ≤ length es → index_of t es < length es
unfolding index_of
index_in t es h = last_in t 0 0 (length es) es h (omega arith)

-- ---- of the entries that f gives

last_append : (t i k n : ℕ) (xs ys : List Entry) → i + length xs ≡ n → last_from t i k (xs ++ ys) ≡ last_from t n (last_from t i k xs) ys
unfolding last_from
last_append t i k n [] ys e =
    let d : i ≡ n = omega arith in
    ap (λ m. last_from t m k ys) d
last_append t i k n (x ∷ xs) ys e = last_append t (suc i) (cond (leb x.start t) i k) n xs ys (omega arith)

module _ (t : ℕ) (f : ℕ → Entry) where
  abbrev found : ℕ → ℕ
  found n = index_of t (listed n f)

  found_more : (n : ℕ) → found (suc n) ≡ cond (leb (f n).start t) n (found n)
  unfolding index_of last_from listed
  found_more n = last_append t 0 0 n (listed n f) (f n ∷ []) (omega (arith, length_listed n f))

  found_started : (f 0).start ≤ t → (n : ℕ) → (f (found n)).start ≤ t
  unfolding index_of last_from listed
  found_started first zero = first
  found_started first (suc n) =
      rw (found_more n) (cond_one (λ k. (f k).start ≤ t) (leb (f n).start t) (leb-true (f n).start t) (λ e. found_started first n))

  -- the one behind it starts after t
  found_next : (n : ℕ) → suc (found n) < n → t < (f (suc (found n))).start
  found_next zero l = absurd (omega arith)
  found_next (suc n) l = rw (found_more n) (go (leb (f n).start t) refl (rw (found_more n) at l) (dec_lt (suc (found n)) n) (found_next n))
    where
      go : (b : Bool) → leb (f n).start t ≡ b → suc (cond b n (found n)) < suc n → Dec (suc (found n) < n)
          → (suc (found n) < n → t < (f (suc (found n))).start)
          → t < (f (suc (cond b n (found n)))).start
      go true e l d below = absurd (omega arith)
      go false e l (yes m) below = below m
      go false e l (no m) below =
          let same : suc (found n) ≡ n = omega arith in
          rw same (leb-false (f n).start t e)

  -- an entry that starts at t or before, and every later one after t
  found_is : (n k : ℕ) → k < n → (f k).start ≤ t → ((i : ℕ) → k < i → i < n → t < (f i).start) → found n ≡ k
  found_is zero k l h later = absurd (omega arith)
  found_is (suc n) k l h later = found_more n ∙ go (dec_lt k n) (λ m. found_is n k m h (λ i a b. later i a (omega arith)))
    where
      go : Dec (k < n) → (k < n → found n ≡ k) → cond (leb (f n).start t) n (found n) ≡ k
      go (yes m) below = rw (lt-leb (f n).start t (later n m (omega arith))) (below m)
      go (no m) below =
          let e : n ≡ k = omega arith in
          let g : (f n).start ≤ t = rw e h in
          rw (le-leb (f n).start t g) e

-- ---- of any list

module _ (t : ℕ) (es : List Entry) where
  index_listed : index_of t es ≡ index_of t (listed (length es) (at es))
  index_listed = ap (index_of t) (sym (listed_get_or es no_entry))

  -- the entry behind the one found starts after t
  pub index_later : suc (index_of t es) < length es → t < (at es (suc (index_of t es))).start
  index_later l = rw index_listed (found_next t (at es) (length es) (rw index_listed at l))

  -- an entry that starts at t or before, and every later one after t, is the one found
  pub index_at : (k : ℕ) → k < length es → (at es k).start ≤ t → ((i : ℕ) → k < i → i < length es → t < (at es i).start) → index_of t es ≡ k
  index_at k l h later = index_listed ∙ found_is t (at es) (length es) k l h later

-- ---- of a page

module _ (half : ℕ) (s : List ℕ) (t : ℕ) (most : entry_count s ≤ capacity half) where
  index_found : index_of t (entries_of half s) ≡ index_of t (listed (entry_count s) (entry_at half s))
  unfolding entries_of
  index_found =
      let e : min (entry_count s) (capacity half) ≡ entry_count s = omega arith in
      ap (λ n. index_of t (listed n (entry_at half s))) e

  -- the slot found is an entry's
  pub index_within : 1 ≤ entry_count s → index_of t (entries_of half s) < entry_count s
  index_within some =
      let n : length (listed (entry_count s) (entry_at half s)) ≡ entry_count s = length_listed (entry_count s) (entry_at half s) in
      omega (arith, index_found, index_in t (listed (entry_count s) (entry_at half s)) (omega arith))

  -- and that entry starts at t or before, if one does
  pub index_started : start_at s 0 ≤ t → start_at s (index_of t (entries_of half s)) ≤ t
  unfolding entry_at
  index_started first = rw index_found (found_started t (entry_at half s) first (entry_count s))

  -- and the one behind it after t
  pub index_next : suc (index_of t (entries_of half s)) < entry_count s → t < start_at s (suc (index_of t (entries_of half s)))
  unfolding entry_at
  index_next l = rw index_found (found_next t (entry_at half s) (entry_count s) (rw index_found at l))

  -- the one of which this holds is the one found
  pub index_is : (k : ℕ) → k < entry_count s → start_at s k ≤ t → ((i : ℕ) → k < i → i < entry_count s → t < start_at s i)
      → index_of t (entries_of half s) ≡ k
  unfolding entry_at
  index_is k l h later = index_found ∙ found_is t (entry_at half s) (entry_count s) k l h later
