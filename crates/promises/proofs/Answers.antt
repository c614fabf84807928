-- The numbers of an answer, as C gets it, are the definition's. Assumes nothing.
use Prim.Native.Nat.{ℕ}
use mathlib.Core.Path.{◌≡◌, refl, ap, ◌∙◌}
use mathlib.Core.List.{List}
use Rattle.rule.specs.declared.Average.{Average}
use Rattle.rule.specs.declared.Average.TheVariants.{Hundredths, Nothing, Beyond}
use Rattle.calls.specs.Index.{index_instant, index_average}
use Rattle.luwhenoka.specs.declared.InstantAnswer.{InstantAnswer}
use Rattle.luwhenoka.specs.declared.AverageAnswer.{AverageAnswer}
use Rattle.luwhenoka.specs.Answers.{instant_answer, pair_of, average_answer, averaged_answer}
use Rattle.luwhenoka.specs.Promises.{Answers, Averages}

pub answer_status : (t : ℕ) (img : List ℕ) {r : InstantAnswer} → Answers t img r → r.status ≡ (index_instant t img).status
unfolding instant_answer
answer_status t img p = ap (λ (a : InstantAnswer). a.status) p

pub answer_pair : (t : ℕ) (img : List ℕ) {r : InstantAnswer} → Answers t img r → pair_of r ≡ (index_instant t img).pair
unfolding instant_answer
answer_pair t img p = ap (λ (a : InstantAnswer). pair_of a) p

pub answer_start : (t : ℕ) (img : List ℕ) {r : InstantAnswer} → Answers t img r → r.start ≡ (index_instant t img).start
unfolding instant_answer
answer_start t img p = ap (λ (a : InstantAnswer). a.start) p

pub answer_end : (t : ℕ) (img : List ℕ) {r : InstantAnswer} → Answers t img r → r.end ≡ (index_instant t img).end
unfolding instant_answer
answer_end t img p = ap (λ (a : InstantAnswer). a.end) p

pub answer_pages : (t : ℕ) (img : List ℕ) {r : InstantAnswer} → Answers t img r → r.pages ≡ (index_instant t img).pages
unfolding instant_answer
answer_pages t img p = ap (λ (a : InstantAnswer). a.pages) p

-- the status of an average's answer
answer_of : (n : ℕ) (a : Average) → (average_answer n a).status ≡ n
unfolding average_answer
answer_of n Nothing = refl
answer_of n (Hundredths x) = refl
answer_of n Beyond = refl

pub average_status : (t : ℕ) (img : List ℕ) {r : AverageAnswer} → Averages t img r → r.status ≡ (index_average t img).status
unfolding averaged_answer
average_status t img p = ap (λ (a : AverageAnswer). a.status) p ∙ answer_of (index_average t img).status (index_average t img).average
