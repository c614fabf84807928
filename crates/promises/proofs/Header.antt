-- The header's promises follow from what is proved of every listing and of every scratch. Assumes nothing.
use Prim.Native.Nat.{ℕ, suc, ◌*◌, ◌-◌, ◌/◌, ◌≤◌}
use mathlib.Core.Path.{sym, ap, ◌∙◌}
use mathlib.Core.Logic.{◌≢◌}
use mathlib.Core.List.{List}
use native.Mathlib.Nat.{div-add-mod', mod-lt, suc-mul, mul-le-mul_right}
use native.Mathlib.Omega.{arith}
use native.Mathlib.Decide.{dec_le}
use lib.ListN.{length}
use Rattle.page.specs.Layout.{capacity, page_size}
use Rattle.image.specs.Images.{half_of, pages_in}
use Rattle.calls.specs.Calls.{Booked, Listed, Audited, Rebuilt, listing}
use Rattle.calls.specs.Index.{index_listing}
use Rattle.calls.specs.Scratch.{BitPerPage}
use Rattle.calls.proofs.Judged.{by_judge, judge_not}
use Rattle.calls.proofs.Scratch.{bit_per_page}
use Rattle.answers.proofs.Few.{few_runs}
use Rattle.demands.proofs.Rebuilds.{every_rebuild}
use Rattle.luwhenoka.specs.Answers.{listing_answer}
use Rattle.promises.specs.Header.{HeaderRuns, HeaderScratch, HeaderTarget}

-- as many as fit in the pages of an image
abbrev most : List ℕ → ℕ
most img = capacity (half_of img) * (pages_in (half_of img) img - 1)

answered : (a b : ℕ) (img out : List ℕ) → (index_listing a b img out).runs ≤ most img
unfolding index_listing
answered a b img out =
    by_judge _ (λ half. listing half a b img out) img (λ (r : Listed). r.runs ≤ most img) (λ g. (few_runs (half_of img)).answered a b img out)
    (λ n. omega arith)

enough : (a b : ℕ) (img out : List ℕ) → 16 * most img ≤ length out → (index_listing a b img out).status ≢ 15
unfolding index_listing
enough a b img out room =
    by_judge _ (λ half. listing half a b img out) img (λ (r : Listed). r.status ≢ 15)
    (λ g. (few_runs (half_of img)).enough a b img out room)
    (λ n. judge_not img 15 (λ z. omega arith) (λ z. omega arith) (λ z. omega arith))

pub header_runs : HeaderRuns
unfolding listing_answer
header_runs =
    record {
      runs = λ a b img out r after p. omega (arith, ap (λ (q : Listed). q.runs) p, answered a b img out);
      enough = λ a b img out r after p room e. enough a b img out room (sym (ap (λ (q : Listed). q.status) p) ∙ e);
    }

abbrev bits : BitPerPage
bits = bit_per_page

pub header_scratch : HeaderScratch
header_scratch =
    record {
      booking = λ side v s e img scratch r after left p enough z.
          bits.enough_booking side v s e img scratch enough (sym (ap (λ (b : Booked). b.status) p) ∙ z);
      audit = λ img scratch r left p enough z. bits.enough_audit img scratch enough (sym (ap (λ (a : Audited). a.status) p) ∙ z);
      rebuild = λ source target scratch r after left p enough z.
          bits.enough_rebuild source target scratch enough (sym (ap (λ (b : Rebuilt). b.status) p) ∙ z);
    }

-- a longer image has no fewer pages
pages_rise : (size a b : ℕ) → 1 ≤ size → a ≤ b → a / size ≤ b / size
pages_rise size a b some le = go (dec_le (a / size) (b / size))
  where
    go : Dec (a / size ≤ b / size) → a / size ≤ b / size
    go (yes h) = h
    go (no h) =
        let more : suc (b / size) * size ≤ a / size * size = mul-le-mul_right size (omega arith) in
        absurd (omega (arith, more, suc-mul (b / size) size, div-add-mod' a size, div-add-mod' b size, mod-lt b some))

pub header_target : HeaderTarget
unfolding pages_in
header_target =
    record {
      enough = λ source target scratch r after left p room z.
          omega (arith, room, (every_rebuild.as_the_source source target scratch (sym (ap (λ (b : Rebuilt). b.status) p) ∙ z)).0);
      as_long = λ source target scratch r after left p long z.
          let k = every_rebuild.as_the_source source target scratch (sym (ap (λ (b : Rebuilt). b.status) p) ∙ z) in
          omega (arith, k.0, k.1, pages_rise (page_size (half_of source)) (length source) (length target) (omega arith) long);
    }
