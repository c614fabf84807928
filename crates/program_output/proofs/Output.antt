-- What the program writes is document 01's output. Assumes nothing.
use mathlib.Core.Path.{◌≡◌, refl, sym, ap, ◌∙◌, subst}
use mathlib.Core.Bool.{Bool, true, false, cond}
use mathlib.Core.List.{List, [], ◌∷◌, ◌++◌}
use Prim.Native.Nat.{ℕ, ◌*◌, ◌-◌, ◌/◌}
use native.Mathlib.Decide.{ℕ_discrete}
use native.Mathlib.Omega.{arith}
use lib.ListN.{length, replicate}
use lib.Dec.{eqb}
use mir.Syntax.{w32, w64}
use borrow.Author.Tests.{eq-eqb}
use Rattle.lists.specs.Lists.{All}
use Rattle.lists.proofs.All.{all_weaken}
use Rattle.rule.specs.Time.{END}
use Rattle.rule.proofs.Signed.{sfits_nat_abs}
use Rattle.fields.specs.Bytes.{patch}
use Rattle.fields.proofs.Laws.Parts.{part_patch_same}
use Rattle.page.specs.declared.Head.{Head}
use Rattle.page.specs.Layout.{page_size, capacity_ok, capacity_named}
use Rattle.lists.specs.Lists.{concat_map}
use Rattle.page.specs.Fit.{root_context, field_ok}
use Rattle.image.specs.Images.{pages_in}
use Rattle.image.specs.Listing.{Run, run_bytes, walk_over}
use Rattle.calls.specs.Refusals.{borrowed}
use Rattle.calls.specs.Calls.{head, format, book, runs_over, written, listing}
use Rattle.marks.proofs.Opened.{all_definitions}
use Rattle.book.specs.Book.{Book, empty_book}
use Rattle.calls.specs.Program.{Line, booking, unread, ran_line, runs_text, program}
use Rattle.print.specs.Written.{runs_line}
use Rattle.runs.proofs.Laws.Entries.{length_runs_bytes}
use Rattle.soundness.proofs.Sound.{the_head, sound_facts, sound_whole, sound_old}
use Rattle.claims.proofs.Steps.{book_keeps}
use Rattle.answers.proofs.Sound.{sound_head, sound_walk}
use Rattle.demands.proofs.Booked.{booked}
use Rattle.demands.proofs.Invariant.{TraceInvariant, kept_accepted}
use Rattle.demands.proofs.Fresh.{kept_format}
use Rattle.luwhenoka.proofs.Laws.Listings.{listing_0}
use Rattle.program.specs.State.{ProgramState, at_first, line_run, after_byte, after_bytes, ended, listing_text, listed_text}
use Rattle.program.proofs.Whole.{goes_program}
use Rattle.program_output.proofs.Each.{each_join}
use Rattle.program_output.proofs.Fits.{Bound, walk_bounds}
use Rattle.program_output.proofs.Back.{Fits, runs_back}
use Rattle.program_output.proofs.Few.{runs_few}

-- an image that the program comes to: sound, of 64 pages, and of kind 1
pub record Reached (img : List ℕ) : Type 0 where
  pub book : Book
  pub kept : TraceInvariant 12 img book
  pub pages : pages_in 12 img ≡ 64
  pub kind : (head 12 img).kind ≡ 1

-- ---- every line leaves such an image

same_pages : (img img' : List ℕ) → length img' ≡ length img → pages_in 12 img' ≡ pages_in 12 img
unfolding pages_in
same_pages img img' e = ap (λ n. n / page_size 12) e

reached_line : (k : ℕ) (l : Line) {img : List ℕ} → Reached img → Reached (ran_line 12 64 k l img).image
unfolding ran_line borrowed
reached_line k unread R = R
reached_line k (booking side v s e) {img} R = step (ℕ_discrete (book borrowed 12 side v s e img (replicate 8 0)).status 0)
  where
    step : Dec ((book borrowed 12 side v s e img (replicate 8 0)).status ≡ 0)
        → Reached (book borrowed 12 side v s e img (replicate 8 0)).image
    step (yes n) =
        let left = booked (omega arith) side v s e img (replicate 8 0) R.kept.bytes n in
        record {
          book = _;
          kept = kept_accepted (omega arith) side v s e (replicate 8 0) R.kept n;
          pages = same_pages img (book borrowed 12 side v s e img (replicate 8 0)).image left.size ∙ R.pages;
          kind = left.kind ∙ R.kind;
        }
    step (no n) = subst Reached (sym (book_keeps 12 side v s e img (replicate 8 0) n)) R

reached_run : (g : ProgramState) → Reached g.image → Reached (line_run 12 64 g).image
unfolding line_run
reached_run g R = reached_line g.number _ R

reached_byte : (b : ℕ) (g : ProgramState) → Reached g.image → Reached (after_byte 12 64 b g).image
unfolding after_byte
reached_byte b g R = pick (eqb b 10) (reached_run g R)
  where
    pick : (t : Bool) → Reached (line_run 12 64 g).image
        → Reached (cond t (line_run 12 64 g)
        (record { written = g.written; line = g.line ++ (b ∷ []); number = g.number; image = g.image })).image
    pick true r = r
    pick false r = R

reached_text : (text : List ℕ) (g : ProgramState) → Reached g.image → Reached (after_bytes 12 64 text g).image
unfolding after_bytes
reached_text [] g R = R
reached_text (b ∷ bs) g R = reached_text bs (after_byte 12 64 b g) (reached_byte b g R)

reached_end : (g : ProgramState) → Reached g.image → Reached (ended 12 64 g).image
unfolding ended
reached_end g R = pick (eqb (length g.line) 0) (reached_run g R)
  where
    pick : (t : Bool) → Reached (line_run 12 64 g).image → Reached (cond t g (line_run 12 64 g)).image
    pick true r = R
    pick false r = r

-- ---- what is printed of such an image

fits : {img : List ℕ} → Reached img → All Fits (runs_over 12 0 END img)
unfolding runs_over walk_over head root_context
fits {img} R =
    let h : Head = the_head 12 img in
    let most = (sound_facts 12 img (sound_old 12 img R.kept.sound)).fit.head.changes_most in
    all_weaken
    (λ (r : Run) (e : Bound h (root_context h) r).
    record {
      start = e.start;
      count = sfits_nat_abs w32 (omega (arith, e.total.counts, most));
      sum = sfits_nat_abs w64 (omega (arith, e.total.sums, most));
    })
    (each_join
    (walk_bounds h img R.kept.bytes (eq-eqb h.kind 1 R.kind) 0 END (omega arith) (h.height - 1) (root_context h) h.root))

pub listing_printed : {img : List ℕ} → Reached img → (list : List ℕ) → length list ≡ 22656
    → listed_text (listing 12 0 END img list) ≡ listing_text 12 img
unfolding listed_text listing_text written
listing_printed {img} R list n =
    let rs : List Run = runs_over 12 0 END img in
    let few = runs_few 0 END img (sound_old 12 img R.kept.sound) R.pages in
    let bs : List ℕ = concat_map run_bytes rs in
    ap listed_text
    (sym (listing_0 12 0 END img list (sound_whole 12 img (sound_old 12 img R.kept.sound)) (omega arith) (omega arith) (sound_head 12 img (sound_old 12 img R.kept.sound))
    (sound_walk 12 img (sound_old 12 img R.kept.sound) 0 END) (omega (arith, few, n))))
    ∙ ap (λ q. runs_line (length rs) ++ runs_text q)
    (runs_back (patch list 0 bs) 0 (fits R) (part_patch_same list 0 bs (16 * length rs) (length_runs_bytes rs) (omega arith)))

-- ---- "(64 pages, kind 1, w = 0)"

formats : (format 12 1 0 24 (replicate 32768 0)).status ≡ 0
unfolding all_definitions
formats = refl

formatted_pages : pages_in 12 (format 12 1 0 24 (replicate 32768 0)).image ≡ 64
unfolding all_definitions
formatted_pages = refl

reached_first : Reached (at_first 12 64).image
unfolding at_first empty_book
reached_first =
    let k = kept_format 12 1 0 24 (replicate 32768 0) formats (omega arith) (unfold field_ok capacity_named capacity_ok in refl) in
    record { book = empty_book 1 0; kept = k; pages = formatted_pages; kind = k.kind }

-- The program's output is what the pieces of its text print and, behind that, what is printed of the full listing that is made in
-- any 22,656 bytes.
pub program_written : (text list : List ℕ) → length list ≡ 22656
    → program 12 64 text
    ≡ (ended 12 64 (after_bytes 12 64 text (at_first 12 64))).written
    ++ listed_text (listing 12 0 END (ended 12 64 (after_bytes 12 64 text (at_first 12 64))).image list)
program_written text list n =
    let last : ProgramState = after_bytes 12 64 text (at_first 12 64) in
    goes_program 12 64 text
    ∙ ap (λ l. (ended 12 64 last).written ++ l)
    (sym (listing_printed (reached_end last (reached_text text (at_first 12 64) reached_first)) list n))
