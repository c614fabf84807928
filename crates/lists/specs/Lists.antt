-- Lists by index, one behind another, with others in the place of one, and counted; and what holds of each element. Assumes nothing.
use Rattle.std.specs.Prelude.{ℕ, zero, suc, ◌+◌, Bool, true, cond, ◌&&◌, List, [], ◌∷◌, ◌++◌, take, drop, eqb}

-- f of each number below n, in turn
unfoldable pub listed : {A : Type 0} → ℕ → (ℕ → A) → List A
listed zero f = []
listed (suc n) f = listed n f ++ (f n ∷ [])

-- f of each element, one list behind another
unfoldable pub concat_map : {A B : Type 0} → (A → List B) → List A → List B
concat_map f [] = []
concat_map f (x ∷ xs) = f x ++ concat_map f xs

-- xs in the place of the i-th element
unfoldable pub splice : {A : Type 0} → ℕ → List A → List A → List A
splice i xs es = take i es ++ (xs ++ drop (suc i) es)

-- 1 where q is p
abbrev pub hit : ℕ → ℕ → ℕ
hit p q = cond (eqb p q) 1 0

-- how often p stands in a list
unfoldable pub times : ℕ → List ℕ → ℕ
times p [] = 0
times p (q ∷ qs) = hit p q + times p qs

-- f of each element, added up
unfoldable pub sum : {A : Type 0} → (A → ℕ) → List A → ℕ
sum f [] = 0
sum f (x ∷ xs) = f x + sum f xs

-- f of each number below n, added up
unfoldable pub total : ℕ → (ℕ → ℕ) → ℕ
total zero f = 0
total (suc n) f = total n f + f n

-- a test of each number of a list
unfoldable pub all_of : (ℕ → Bool) → List ℕ → Bool
all_of ok [] = true
all_of ok (p ∷ ps) = ok p && all_of ok ps

-- Q of each element
pub data All {A : Type 0} (Q : A → Type 0) : List A → Type 0 where
  all_none : All Q []
  all_more : {x : A} {xs : List A} → Q x → All Q xs → All Q (x ∷ xs)
