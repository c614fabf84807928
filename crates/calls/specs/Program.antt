-- Document 01, "Marks from the test rack": the program, as a function from the bytes that it reads to those that it writes.
-- Over the number of pages, which is 64, and half the capacity of a page. Assumes nothing.
use Rattle.std.specs.Prelude.{ℕ, zero, suc, ◌+◌, ◌*◌, ◌/◌, ◌%◌, ◌-◌, Bool, true, false, cond, ◌&&◌, List, [], ◌∷◌, ◌++◌, length, replicate, eqb, leb, ltb, ℤ, pos, negsuc, neg_ℤ}
use Rattle.rule.specs.declared.Average.{Average}
use Rattle.rule.specs.declared.Average.TheVariants.{Hundredths, Nothing, Beyond}
use Rattle.rule.specs.Time.{END}
use Rattle.rule.specs.Averages.{average}
use Rattle.page.specs.Layout.{capacity, page_size}
use Rattle.image.specs.Listing.{Run}
use Rattle.calls.specs.Refusals.{borrowed}
use Rattle.calls.specs.Changes.{Side, entering, withdrawing}
use Rattle.calls.specs.Calls.{format, book, runs_over}

-- Reading: a list cut at every c

unfoldable pub onto_first : ℕ → List (List ℕ) → List (List ℕ)
onto_first x [] = (x ∷ []) ∷ []
onto_first x (l ∷ ls) = (x ∷ l) ∷ ls

unfoldable pub cut_at : ℕ → List ℕ → List (List ℕ)
cut_at c [] = [] ∷ []
cut_at c (x ∷ xs) = cond (eqb x c) ([] ∷ cut_at c xs) (onto_first x (cut_at c xs))

-- "the last newline may be missing": what follows the last newline is a line only if it isn't empty
unfoldable pub without_empty_last : List (List ℕ) → List (List ℕ)
without_empty_last [] = []
without_empty_last (l ∷ []) = cond (eqb (length l) 0) [] (l ∷ [])
without_empty_last (l ∷ m ∷ ms) = l ∷ without_empty_last (m ∷ ms)

unfoldable pub lines_of : List ℕ → List (List ℕ)
lines_of text = without_empty_last (cut_at 10 text)

-- "1 to 10 digits"
unfoldable pub all_digits : List ℕ → Bool
all_digits [] = true
all_digits (d ∷ ds) = leb 48 d && (leb d 57 && all_digits ds)

unfoldable pub number_read : List ℕ → Bool
number_read ds = leb 1 (length ds) && (leb (length ds) 10 && all_digits ds)

unfoldable pub number_from : ℕ → List ℕ → ℕ
number_from n [] = n
number_from n (d ∷ ds) = number_from (10 * n + (d - 48)) ds

-- "s and e at most END"
unfoldable pub instant_read : List ℕ → Bool
instant_read ds = number_read ds && leb (number_from 0 ds) END

-- "v may have a minus"
unfoldable pub value_read : List ℕ → Bool
value_read [] = false
value_read (d ∷ ds) = cond (eqb d 45) (number_read ds) (number_read (d ∷ ds))

unfoldable pub value_from : List ℕ → ℤ
value_from [] = pos 0
value_from (d ∷ ds) = cond (eqb d 45) (neg_ℤ (pos (number_from 0 ds))) (pos (number_from 0 (d ∷ ds)))

-- A line: "`+ v s e` or `- v s e`", or "any other form".
pub data Line : Type 0 where
  booking : Side → ℤ → ℕ → ℕ → Line
  unread : Line

unfoldable pub line_with : Side → List ℕ → List ℕ → List ℕ → Line
line_with side v s e =
    cond (value_read v && (instant_read s && instant_read e))
    (booking side (value_from v) (number_from 0 s) (number_from 0 e)) unread

-- the sign + (43) or - (45), alone
unfoldable pub signed_line : List ℕ → List ℕ → List ℕ → List ℕ → Line
signed_line [] v s e = unread
signed_line (c ∷ []) v s e = cond (eqb c 43) (line_with entering v s e) (cond (eqb c 45) (line_with withdrawing v s e) unread)
signed_line (c ∷ d ∷ ds) v s e = unread

-- "fields one space apart": exactly four
unfoldable pub line_from : List (List ℕ) → Line
line_from [] = unread
line_from (a ∷ []) = unread
line_from (a ∷ b ∷ []) = unread
line_from (a ∷ b ∷ c ∷ []) = unread
line_from (a ∷ b ∷ c ∷ d ∷ []) = signed_line a b c d
line_from (a ∷ b ∷ c ∷ d ∷ f ∷ fs) = unread

-- Writing: numbers in decimal, of at most twenty digits

unfoldable pub decimal_in : ℕ → ℕ → List ℕ
decimal_in zero n = []
decimal_in (suc k) n =
    let more = decimal_in k (n / 10) in
    cond (ltb n 10) ((48 + n) ∷ []) (more ++ ((48 + n % 10) ∷ []))

unfoldable pub decimal : ℕ → List ℕ
decimal n = decimal_in 20 n

unfoldable pub integer : ℤ → List ℕ
integer (pos n) = decimal n
integer (negsuc n) = 45 ∷ decimal (suc n)

-- "average (two decimals, a minus if below zero, zero without one, `-` for none)"
unfoldable pub two_decimals : ℕ → List ℕ
two_decimals n = decimal (n / 100) ++ (46 ∷ (48 + n / 10 % 10) ∷ (48 + n % 10) ∷ [])

unfoldable pub average_text : Average → List ℕ
average_text (Hundredths (pos n)) = two_decimals n
average_text (Hundredths (negsuc n)) = 45 ∷ two_decimals (suc n)
average_text Nothing = 45 ∷ []
average_text Beyond = 45 ∷ []

-- "line ", " refused ", " unread", "runs "
unfoldable pub refused_text : ℕ → ℕ → List ℕ
refused_text k number =
    (108 ∷ 105 ∷ 110 ∷ 101 ∷ 32 ∷ []) ++ (decimal k
    ++ ((32 ∷ 114 ∷ 101 ∷ 102 ∷ 117 ∷ 115 ∷ 101 ∷ 100 ∷ 32 ∷ []) ++ (decimal number ++ (10 ∷ []))))

unfoldable pub unread_text : ℕ → List ℕ
unread_text k =
    (108 ∷ 105 ∷ 110 ∷ 101 ∷ 32 ∷ []) ++ (decimal k ++ (32 ∷ 117 ∷ 110 ∷ 114 ∷ 101 ∷ 97 ∷ 100 ∷ 10 ∷ []))

-- "each run as start, end, sum, count, average"
unfoldable pub run_text : Run → ℕ → List ℕ
run_text r end =
    decimal r.start ++ (32 ∷ (decimal end ++ (32 ∷ (integer r.pair.sum ++ (32 ∷ (integer r.pair.count
    ++ (32 ∷ (average_text (average 1 r.pair) ++ (10 ∷ [])))))))))

unfoldable pub runs_text : List Run → List ℕ
runs_text [] = []
runs_text (r ∷ []) = run_text r END
runs_text (r ∷ q ∷ rs) = run_text r q.start ++ runs_text (q ∷ rs)

-- The program: what it has written after the lines from the k-th on, and the image then.
pub record Ran : Type 0 where
  pub written : List ℕ
  pub image : List ℕ

unfoldable pub ran_line : ℕ → ℕ → ℕ → Line → List ℕ → Ran
ran_line half pages k unread img = record { written = unread_text k; image = img }
ran_line half pages k (booking side v s e) img =
    let r = book borrowed half side v s e img (replicate (borrowed pages) 0) in
    record { written = cond (eqb r.status 0) [] (refused_text k r.status); image = r.image }

unfoldable pub ran_lines : ℕ → ℕ → ℕ → List (List ℕ) → List ℕ → Ran
ran_lines half pages k [] img = record { written = []; image = img }
ran_lines half pages k (l ∷ ls) img =
    let r = ran_line half pages k (line_from (cut_at 32 l)) img in
    let rest = ran_lines half pages (suc k) ls r.image in
    record { written = r.written ++ rest.written; image = rest.image }

-- "(64 pages, kind 1, w = 0)", "then `runs` with their number, and each run"
unfoldable pub program : ℕ → ℕ → List ℕ → List ℕ
program half pages text =
    let fresh = (format half 1 0 (capacity half) (replicate (page_size half * pages) 0)).image in
    let r = ran_lines half pages 1 (lines_of text) fresh in
    let runs = runs_over half 0 END r.image in
    r.written ++ ((114 ∷ 117 ∷ 110 ∷ 115 ∷ 32 ∷ []) ++ (decimal (length runs) ++ (10 ∷ runs_text runs)))
