-- The laws of `concat_map`, the bytes of a list's elements one after the other, and of a run of slots of k bytes each, of which the first
-- hold a list's elements and the others are unused: both arrays of a tree page are such runs. Assumes nothing.
use mathlib.Core.Path.{◌≡◌, sym, ap, ◌∙◌}
use mathlib.Core.List.{List, [], ◌∷◌, ◌++◌, append_assoc}
use Prim.Native.Nat.{ℕ, zero, suc, ◌+◌, ◌-◌, ◌*◌, ◌≤◌, ◌<◌}
use native.Mathlib.Nat.{mul-zero, mul-suc, mul-add, add_comm, sub-zero, add-sub_of_le}
use native.Mathlib.Omega.{arith}
use lib.ListN.{length, get_or, length-append}
use lib.Dec.{lit<}
use Rattle.lists.specs.Lists.{listed, concat_map, splice, All, all_none, all_more}
use Rattle.lists.proofs.All.{all_always}
use Rattle.lists.proofs.Listed.{length_listed}
use Rattle.lists.proofs.Concat.{concat_map_more}
use Rattle.fields.specs.Bytes.{Bytes, part, patch, unused}
use Rattle.fields.proofs.Laws.Parts.{part_none, part_add, part_append_right, part_middle, patch_append_left, patch_append_right}
use Rattle.fields.proofs.Laws.Parts.{patch_whole}
use Rattle.fields.proofs.Laws.Digits.{bytes_append, bytes_unused}
use Rattle.fields.proofs.Laws.Tests.{length_unused, unused_add}
use Rattle.page.proofs.Laws.Pieces.{part_last}

module _ {A : Type 0} (f : A → List ℕ) where
  pub bytes_joined : ((x : A) → Bytes (f x)) → (xs : List A) → Bytes (concat_map f xs)
  unfolding concat_map
  bytes_joined h [] i = lit< tt
  bytes_joined h (x ∷ xs) i = bytes_append (f x) (concat_map f xs) (h x) (bytes_joined h xs) i

-- A run of `room` slots of k bytes: the bytes of xs, the others unused.
unfoldable pub run : {A : Type 0} → (A → List ℕ) → ℕ → ℕ → List A → List ℕ
run f k room xs = concat_map f xs ++ unused (k * (room - length xs))

-- elements of k bytes each
module _ {A : Type 0} (f : A → List ℕ) (k : ℕ) where
  pub length_sized : {xs : List A} → All (λ x. length (f x) ≡ k) xs → length (concat_map f xs) ≡ k * length xs
  unfolding concat_map
  length_sized all_none = sym (mul-zero k)
  length_sized (all_more {x} {xs} q r) = rw (length-append, q, length_sized r, mul-suc) (add_comm k (k * length xs))

  -- the i-th element's bytes stand at the i-th slot
  pub part_sized : {xs : List A} (ys : List ℕ) (d : A) (i : ℕ) → All (λ x. length (f x) ≡ k) xs → i < length xs
      → part (concat_map f xs ++ ys) (k * i) k ≡ f (get_or xs i d)
  unfolding concat_map
  part_sized ys d i all_none h = absurd (omega arith)
  part_sized ys d zero (all_more {x} {xs} q r) h =
      ap (λ l. part l (k * 0) k) (append_assoc (f x) (concat_map f xs) ys)
      ∙ part_middle [] (f x) (concat_map f xs ++ ys) (k * 0) k (sym (mul-zero k)) q
  part_sized ys d (suc i) (all_more {x} {xs} q r) h =
      let e : k * suc i ≡ length (f x) + k * i = rw (mul-suc, q) (add_comm (k * i) k) in
      ap (λ l. part l (k * suc i) k) (append_assoc (f x) (concat_map f xs) ys)
      ∙ ap (λ o. part (f x ++ (concat_map f xs ++ ys)) o k) e
      ∙ part_append_right (f x) (concat_map f xs ++ ys) (k * i) k
      ∙ part_sized ys d i r (omega arith)

-- where each that there is has so many
module _ {A : Type 0} (f : A → List ℕ) (k : ℕ) (each : (x : A) → length (f x) ≡ k) where
  pub length_joined : (xs : List A) → length (concat_map f xs) ≡ k * length xs
  length_joined xs = length_sized f k (all_always each xs)

  pub part_joined : (xs : List A) (ys : List ℕ) (d : A) (i : ℕ) → i < length xs → part (concat_map f xs ++ ys) (k * i) k ≡ f (get_or xs i d)
  part_joined xs ys d i h = part_sized f k ys d i (all_always each xs) h

  -- the bytes of what stands at n slots, one after the other, are the bytes of those slots
  pub joined_parts : (s : List ℕ) (o n : ℕ) (x : ℕ → A) → ((i : ℕ) → i < n → f (x i) ≡ part s (o + k * i) k)
      → concat_map f (listed n x) ≡ part s o (k * n)
  unfolding concat_map listed
  joined_parts s o zero x h = sym (rw mul-zero (part_none s o))
  joined_parts s o (suc n) x h =
      concat_map_more f x n
      ∙ (λ j. joined_parts s o n x (λ i l. h i (omega arith)) j ++ h n (omega arith) j)
      ∙ sym (part_add s o (k * n) k)
      ∙ ap (part s o) (sym (mul-suc k n))

  module _ (room : ℕ) where
    pub run_none : run f k room [] ≡ unused (k * room)
    unfolding run concat_map
    run_none = ap (λ n. unused (k * n)) (sub-zero room)

    pub bytes_run : ((x : A) → Bytes (f x)) → (xs : List A) → Bytes (run f k room xs)
    unfolding run
    bytes_run h xs =
        bytes_append (concat_map f xs) (unused (k * (room - length xs))) (bytes_joined f h xs) (bytes_unused (k * (room - length xs)))

    pub length_run : (xs : List A) → length xs ≤ room → length (run f k room xs) ≡ k * room
    unfolding run
    length_run xs h =
        length-append (concat_map f xs) (unused (k * (room - length xs)))
        ∙ (λ j. length_joined xs j + length_unused (k * (room - length xs)) j)
        ∙ sym (mul-add k (length xs) (room - length xs))
        ∙ ap (λ n. k * n) (add-sub_of_le h)

    pub part_run : (xs : List A) (d : A) (i : ℕ) → i < length xs → part (run f k room xs) (k * i) k ≡ f (get_or xs i d)
    unfolding run
    part_run xs d i h = part_joined xs (unused (k * (room - length xs))) d i h

    pub part_run_past : (xs : List A) → part (run f k room xs) (k * length xs) (k * (room - length xs)) ≡ unused (k * (room - length xs))
    unfolding run
    part_run_past xs =
        part_last (concat_map f xs) (unused (k * (room - length xs))) (k * length xs) (k * (room - length xs)) (length_joined xs)
        (length_unused (k * (room - length xs)))

    -- a run of what stands at n slots, those behind them unused, is the bytes of all its slots
    pub run_parts : (s : List ℕ) (o n : ℕ) (x : ℕ → A) → n ≤ room → ((i : ℕ) → i < n → f (x i) ≡ part s (o + k * i) k)
        → part s (o + k * n) (k * (room - n)) ≡ unused (k * (room - n)) → run f k room (listed n x) ≡ part s o (k * room)
    unfolding run
    run_parts s o n x h g past =
        ap (λ m. concat_map f (listed n x) ++ unused (k * (room - m))) (length_listed n x)
        ∙ (λ j. joined_parts s o n x g j ++ sym past j)
        ∙ sym (part_add s o (k * n) (k * (room - n)))
        ∙ ap (part s o) (sym (mul-add k n (room - n)) ∙ ap (λ m. k * m) (add-sub_of_le h))

  -- ---- a run's first slot, and the slots behind it

  run_first : (room : ℕ) (x : A) (xs : List A) → run f k (suc room) (x ∷ xs) ≡ f x ++ run f k room xs
  unfolding run concat_map
  run_first room x xs =
      let e : suc room - suc (length xs) ≡ room - length xs = omega arith in
      ap (λ n. f x ++ concat_map f xs ++ unused (k * n)) e ∙ append_assoc (f x) (concat_map f xs) (unused (k * (room - length xs)))

  run_unused : (room : ℕ) → run f k (suc room) [] ≡ unused k ++ run f k room []
  run_unused room =
      run_none (suc room) ∙ ap unused (mul-suc k room ∙ add_comm (k * room) k) ∙ unused_add k (k * room)
      ∙ ap (λ l. unused k ++ l) (sym (run_none room))

  patch_first : (s a t bs : List ℕ) → s ≡ a ++ t → length a ≡ k → length bs ≡ k → patch s (k * 0) bs ≡ bs ++ t
  patch_first s a t bs e g h =
      (λ j. patch (e j) (mul-zero k j) bs) ∙ patch_append_left a t 0 bs (omega arith) ∙ ap (λ l. l ++ t) (patch_whole a bs (h ∙ sym g))

  patch_behind : (s a t bs : List ℕ) (i : ℕ) → s ≡ a ++ t → length a ≡ k → patch s (k * suc i) bs ≡ a ++ patch t (k * i) bs
  patch_behind s a t bs i e g =
      (λ j. patch (e j) ((mul-suc k i ∙ add_comm (k * i) k ∙ ap (λ n. n + k * i) (sym g)) j) bs) ∙ patch_append_right a t (k * i) bs

  -- an element is written at a slot of another, or at the first unused one
  pub patch_slot : (room : ℕ) (xs : List A) (x : A) (i : ℕ) → i ≤ length xs → i < room
      → patch (run f k room xs) (k * i) (f x) ≡ run f k room (splice i (x ∷ []) xs)
  unfolding splice
  patch_slot zero xs x i h l = absurd (omega arith)
  patch_slot (suc room) [] x zero h l =
      patch_first (run f k (suc room) []) (unused k) (run f k room []) (f x) (run_unused room) (length_unused k) (each x)
      ∙ sym (run_first room x [])
  patch_slot (suc room) [] x (suc i) h l = absurd (omega arith)
  patch_slot (suc room) (y ∷ ys) x zero h l =
      patch_first (run f k (suc room) (y ∷ ys)) (f y) (run f k room ys) (f x) (run_first room y ys) (each y) (each x)
      ∙ sym (run_first room x ys)
  patch_slot (suc room) (y ∷ ys) x (suc i) h l =
      patch_behind (run f k (suc room) (y ∷ ys)) (f y) (run f k room ys) (f x) i (run_first room y ys) (each y)
      ∙ ap (λ t. f y ++ t) (patch_slot room ys x i (omega arith) (omega arith))
      ∙ sym (run_first room y (splice i (x ∷ []) ys))

  -- the last element's slot is unused again
  pub patch_last : (room : ℕ) (xs : List A) (x : A) → length xs < room
      → patch (run f k room (xs ++ (x ∷ []))) (k * length xs) (unused k) ≡ run f k room xs
  patch_last zero xs x l = absurd (omega arith)
  patch_last (suc room) [] x l =
      patch_first (run f k (suc room) (x ∷ [])) (f x) (run f k room []) (unused k) (run_first room x []) (each x) (length_unused k)
      ∙ sym (run_unused room)
  patch_last (suc room) (y ∷ ys) x l =
      patch_behind (run f k (suc room) (y ∷ (ys ++ (x ∷ [])))) (f y) (run f k room (ys ++ (x ∷ []))) (unused k) (length ys)
      (run_first room y (ys ++ (x ∷ []))) (each y)
      ∙ ap (λ t. f y ++ t) (patch_last room ys x (omega arith))
      ∙ sym (run_first room y ys)
