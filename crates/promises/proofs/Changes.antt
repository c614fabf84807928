-- Every accepted change, of what the functions for C promise. Assumes nothing.
use mathlib.Core.Path.{sym, ap, ◌∙◌, subst⁻¹}
use mathlib.Core.List.{List}
use Prim.Native.Nat.{ℕ}
use lib.IntN.{ℤ}
use Rattle.rule.specs.declared.Pair.{Pair}
use Rattle.rule.specs.Pairs.{combine}
use Rattle.image.specs.Images.{half_of}
use Rattle.calls.specs.Changes.{Side, effect}
use Rattle.calls.specs.Calls.{Booked, head}
use Rattle.claims.specs.Accepted.{AcceptedChange, EveryChange}
use Rattle.demands.proofs.Accepted.{every_change}
use Rattle.promises.specs.Changes.{ChangePromised, EveryChangePromised}
use Rattle.promises.proofs.Answers.{answer_status, answer_pair}

changed_so : (side : Side) (v : ℤ) (s e : ℕ) (img after : List ℕ) → AcceptedChange (half_of img) side v s e img after
    → ChangePromised side v s e img after
changed_so side v s e img after c =
    record {
      leaves = c;
      answered = λ t r l a. answer_status t after a ∙ c.answered t l;
      statuses = λ t r q a b. answer_status t after a ∙ c.statuses t ∙ sym (answer_status t img b);
      outside = λ t r q o a b. answer_pair t after a ∙ c.outside t o ∙ sym (answer_pair t img b);
      inside =
          λ t r q l h a b.
          answer_pair t after a
          ∙ c.inside t l h
          ∙ ap (λ (p : Pair). combine (head (half_of img) img).kind p (effect side v)) (sym (answer_pair t img b));
    }

pub every_change_promised : EveryChangePromised
unfolding EveryChangePromised EveryChange
every_change_promised side v s e img scratch after left b p =
    changed_so side v s e img after
    (subst⁻¹ (AcceptedChange (half_of img) side v s e img) (ap (λ (x : Booked). x.image) p)
    (every_change side v s e img scratch b (sym (ap (λ (x : Booked). x.status) p))))
