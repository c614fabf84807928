-- Until when an answer holds, of what the functions for C promise. Assumes nothing.
use Prim.Native.Nat.{ℕ}
use mathlib.Core.Path.{◌≡◌, sym, ap, ◌∙◌}
use mathlib.Core.List.{List}
use native.Mathlib.Omega.{arith}
use Rattle.calls.specs.Calls.{Instant}
use Rattle.calls.specs.Index.{index_instant}
use Rattle.claims.specs.Until.{UntilWhen}
use Rattle.answers.proofs.Until.{until_when}
use Rattle.demands.proofs.Agree.{as_the_book}
use Rattle.demands.proofs.Traces.{reached}
use Rattle.luwhenoka.specs.declared.InstantAnswer.{InstantAnswer}
use Rattle.luwhenoka.specs.Answers.{instant_answer, pair_of}
use Rattle.luwhenoka.specs.Promises.{Answers}
use Rattle.promises.specs.AfterLists.{AfterLists}
use Rattle.promises.specs.Until.{BookedAs, Between, UntilPromised}
use Rattle.promises.proofs.Answers.{answer_status, answer_pair, answer_start, answer_end}

abbrev until : UntilWhen
until = until_when

module _ (t : ℕ) (img : List ℕ) {r : InstantAnswer} (p : Answers t img r) (e : r.status ≡ 0) where
  answered : (index_instant t img).status ≡ 0
  answered = sym (answer_status t img p) ∙ e

  module _ (u : ℕ) (between : Between u r) where
    same : index_instant u img ≡ index_instant t img
    same = (until.holds t img answered).same u (rw (answer_start t img p) at between.0) (rw (answer_end t img p) at between.1)

    asked_again : {q : InstantAnswer} → Answers u img q → q ≡ r
    asked_again k = k ∙ ap instant_answer same ∙ sym p

    as_booked : AfterLists img (BookedAs u r)
    unfolding AfterLists BookedAs
    as_booked kind window field cs T =
        let b = as_the_book (reached T).kept in
        let k = until.holds t img answered in
        sym (b.instants u (omega (arith, k.most, answer_end t img p, between.1))).1
        ∙ ap (λ (a : Instant). a.pair) same ∙ sym (answer_pair t img p)

pub until_promised : UntilPromised
unfolding instant_answer
until_promised =
    record {
      around = λ t img r p e.
          let k = until.holds t img (answered t img p e) in
          omega (arith, answer_start t img p, answer_end t img p, k.begun, k.before_end, k.most);
      again = λ t u img r q p k e b. asked_again t img p e u b k;
      of_a_leaf = λ t img r p e. rw (answer_start t img p, answer_end t img p) (until.leaf_entry t img (answered t img p e));
      of_the_book = λ t u img r p e b. as_booked t img p e u b;
      as_before = λ t img r p.
          ap (λ (a : InstantAnswer). record { status = a.status; pair = pair_of a; pages = a.pages }) p ∙ until.as_before t img;
    }
