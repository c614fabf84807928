-- The aggregate on short spans: cases that compute, worked out by hand from source document 000 and apart from the book's. Assumes
-- nothing.
use Rattle.std.specs.Prelude.{ℕ, ◌≡◌, true, false, List, [], ◌∷◌, map, ℤ, pos, negsuc}
use Rattle.rule.specs.Pairs.{pair, none}
use Rattle.calls.specs.Changes.{entering, withdrawing, Change}
use Rattle.book.specs.Aggregate.{counts_at, aggregate, live_from, Matched}

abbrev pub entry : ℤ → ℕ → ℕ → Change
entry v s e = record { side = entering; v = v; s = s; e = e }

abbrev pub withdrawal : ℤ → ℕ → ℕ → Change
withdrawal v s e = record { side = withdrawing; v = v; s = s; e = e }

-- 000, Table 1
unfoldable pub prescription : List Change
prescription =
    entry (pos 2) 10 40 ∷ entry (pos 3) 10 30 ∷ entry (pos 1) 20 40 ∷ entry (pos 2) 5 15 ∷ entry (pos 4) 35 45 ∷ entry (pos 1) 10 50 ∷ []

-- 6 on [10, 40) entered, withdrawn and entered again; entered twice and withdrawn once
unfoldable pub again : List Change
again = entry (pos 6) 10 40 ∷ withdrawal (pos 6) 10 40 ∷ entry (pos 6) 10 40 ∷ []

unfoldable pub twice : List Change
twice = entry (pos 6) 10 40 ∷ entry (pos 6) 10 40 ∷ entry (pos 3) 20 50 ∷ withdrawal (pos 6) 10 40 ∷ []

-- two values of either sign, and 0
unfoldable pub three : List Change
three = entry (negsuc 4) 10 40 ∷ entry (pos 0) 10 30 ∷ entry (pos 3) 10 20 ∷ []

pub record AggregateCases : Type 0 where
  -- 000, Table 2 with the number of active prescriptions: w = 0.
  pub totals :
      map (aggregate 1 0 prescription) (4 ∷ 5 ∷ 9 ∷ 10 ∷ 14 ∷ 15 ∷ 19 ∷ 20 ∷ [])
      ≡ none ∷ pair (pos 2) (pos 1) ∷ pair (pos 2) (pos 1) ∷ pair (pos 8) (pos 4) ∷ pair (pos 8) (pos 4) ∷ pair (pos 6) (pos 3)
      ∷ pair (pos 6) (pos 3) ∷ pair (pos 7) (pos 4) ∷ []
  pub totals_on :
      map (aggregate 1 0 prescription) (30 ∷ 35 ∷ 39 ∷ 40 ∷ 45 ∷ 49 ∷ 50 ∷ [])
      ≡ pair (pos 4) (pos 3) ∷ pair (pos 8) (pos 4) ∷ pair (pos 8) (pos 4) ∷ pair (pos 5) (pos 2) ∷ pair (pos 1) (pos 1)
      ∷ pair (pos 1) (pos 1) ∷ none ∷ []
  -- 000, section 4: w = 5, at 19 and at 32.
  pub window_5 : map (aggregate 1 5 prescription) (19 ∷ 32 ∷ []) ≡ pair (pos 8) (pos 4) ∷ pair (pos 7) (pos 4) ∷ []
  -- 000, Table 5: the greatest with w = 20. "Counting a booking .. at t−w = e" is a fault that document 01 names.
  pub window_20 :
      map (aggregate 2 20 prescription) (4 ∷ 5 ∷ 9 ∷ 10 ∷ 34 ∷ 35 ∷ 64 ∷ 65 ∷ 69 ∷ 70 ∷ [])
      ≡ none ∷ pair (pos 2) (pos 1) ∷ pair (pos 2) (pos 1) ∷ pair (pos 3) (pos 1) ∷ pair (pos 3) (pos 1) ∷ pair (pos 4) (pos 1)
      ∷ pair (pos 4) (pos 1) ∷ pair (pos 1) (pos 1) ∷ pair (pos 1) (pos 1) ∷ none ∷ []
  -- "A booking counts at instant t if [s, e) overlaps [t−w, t]": [35, 45) up to 64 with w = 20, and up to 44 without a window; [0, 1)
  -- at 20, where the window begins at 0, and before that, where it would begin ahead of the first instant.
  pub counts :
      map (counts_at 20 (entry (pos 4) 35 45)) (34 ∷ 35 ∷ 44 ∷ 45 ∷ 64 ∷ 65 ∷ []) ≡ false ∷ true ∷ true ∷ true ∷ true ∷ false ∷ []
  pub counts_now : map (counts_at 0 (entry (pos 4) 35 45)) (34 ∷ 35 ∷ 44 ∷ 45 ∷ []) ≡ false ∷ true ∷ true ∷ false ∷ []
  pub counts_early : map (counts_at 20 (entry (pos 4) 0 1)) (0 ∷ 3 ∷ 20 ∷ 21 ∷ []) ≡ true ∷ true ∷ true ∷ false ∷ []
  -- Greatest and least of values of either sign; of none.
  pub greatest :
      map (aggregate 2 0 three) (9 ∷ 10 ∷ 20 ∷ 30 ∷ 40 ∷ [])
      ≡ none ∷ pair (pos 3) (pos 1) ∷ pair (pos 0) (pos 1) ∷ pair (negsuc 4) (pos 1) ∷ none ∷ []
  pub least :
      map (aggregate 3 0 three) (9 ∷ 10 ∷ 20 ∷ 30 ∷ 40 ∷ [])
      ≡ none ∷ pair (negsuc 4) (pos 1) ∷ pair (negsuc 4) (pos 1) ∷ pair (negsuc 4) (pos 1) ∷ none ∷ []
  pub least_last : aggregate 3 0 (entry (pos 3) 10 20 ∷ entry (pos 0) 10 20 ∷ entry (pos 7) 10 20 ∷ []) 15 ≡ pair (pos 0) (pos 1)
  pub of_none : (aggregate 1 0 [] 7 ≡ none) × (aggregate 2 0 [] 7 ≡ none) × (aggregate 3 0 [] 7 ≡ none)
  -- "a withdrawal counting as a negative entry", with or without one to match.
  pub withdrawn : aggregate 1 0 (entry (pos 6) 10 40 ∷ withdrawal (pos 6) 10 40 ∷ []) 20 ≡ none
  pub withdrawn_alone :
      map (aggregate 1 0 (entry (pos 6) 10 40 ∷ withdrawal (pos 3) 20 50 ∷ [])) (19 ∷ 20 ∷ 40 ∷ 50 ∷ [])
      ≡ pair (pos 6) (pos 1) ∷ pair (pos 3) (pos 0) ∷ pair (negsuc 2) (negsuc 0) ∷ none ∷ []
  -- Live bookings: what is entered again is live again, and of two that are equal one is withdrawn.
  pub live_again : live_from [] again ≡ entry (pos 6) 10 40 ∷ []
  pub live_twice : live_from [] twice ≡ entry (pos 3) 20 50 ∷ entry (pos 6) 10 40 ∷ []
  pub total_again : (aggregate 1 0 again 20 ≡ pair (pos 6) (pos 1)) × (aggregate 1 0 twice 20 ≡ pair (pos 9) (pos 2))
  -- "every withdrawal matches an earlier entry not yet withdrawn": of the same v, s and e, earlier, and once
  pub matched : Matched [] again × Matched [] twice
  pub unmatched : ¬ Matched [] (withdrawal (pos 6) 10 40 ∷ [])
  pub unmatched_yet : ¬ Matched [] (withdrawal (pos 6) 10 40 ∷ entry (pos 6) 10 40 ∷ [])
  pub unmatched_twice : ¬ Matched [] (entry (pos 6) 10 40 ∷ withdrawal (pos 6) 10 40 ∷ withdrawal (pos 6) 10 40 ∷ [])
  pub other_value : ¬ Matched [] (entry (pos 6) 10 40 ∷ withdrawal (pos 5) 10 40 ∷ [])
  pub other_start : ¬ Matched [] (entry (pos 6) 10 40 ∷ withdrawal (pos 6) 11 40 ∷ [])
  pub other_end : ¬ Matched [] (entry (pos 6) 10 40 ∷ withdrawal (pos 6) 10 41 ∷ [])
