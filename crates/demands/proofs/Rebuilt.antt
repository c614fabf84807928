-- What an accepted rebuild leaves in its target: a sound image that answers as the source does, in the fewest pages. Assumes nothing.
use Prim.Native.Nat.{ℕ, suc, ◌*◌, ◌≤◌, ◌<◌}
use mathlib.Core.Path.{◌≡◌, sym, ap, ◌∙◌}
use mathlib.Core.Bool.{true, cond}
use mathlib.Core.List.{List}
use native.Mathlib.Omega.{arith}
use lib.ListN.{length}
use lib.Dec.{eqb}
use borrow.Author.Tests.{not-false, ltb-false}
use Rattle.rule.specs.Time.{END}
use Rattle.fields.specs.Bytes.{Bytes}
use Rattle.page.specs.declared.Head.{Head}
use Rattle.page.specs.Layout.{capacity, capacity_named, page_size}
use Rattle.page.proofs.Laws.Capacities.{field_is}
use Rattle.image.specs.Images.{capacity_field, pages_in, length_ok, image_of}
use Rattle.image.specs.Sound.{sound_before, sound}
use Rattle.image.specs.Instant.{look_up}
use Rattle.image.specs.Listing.{walk_over}
use Rattle.image.proofs.Runs.{differ_joined}
use Rattle.image.proofs.Capacity.{field_read}
use Rattle.tight.specs.Tight.{pages_used, tight, too_small}
use Rattle.tight.specs.Layout.{LaidOut}
use Rattle.soundness.proofs.Sound.{sound_facts}
use Rattle.invariant.proofs.From.Invariant.{pages_range}
use Rattle.tightness.specs.State.{Suited}
use Rattle.tightness.proofs.Sound.{tight_head_read_back, tight_bytes, tight_length, tight_look}
use Rattle.tightness.proofs.Laid.{tight_sound, tight_laid_out}
use Rattle.calls.specs.Refusals.{borrowed}
use Rattle.calls.specs.Calls.{head, runs_over, full_runs, rebuilt_bytes, audit_input_rows, rebuild_status, rebuild}
use Rattle.book.specs.Book.{Book}
use Rattle.answers.proofs.Own.{sound_own}
use Rattle.answers.proofs.Full.{full_tiles, full_paired}
use Rattle.calls.proofs.Rows.{first_none}
use Rattle.demands.proofs.Leaves.{tiles_seg, tiles_pair, paired_bounds}
use Rattle.demands.proofs.Invariant.{TraceInvariant}

-- ---- the target's bytes, of a source that is sound

module _ (half : ℕ) (source : List ℕ) (fits : sound_before half source ≡ true) (pages : ℕ) (least : 2 ≤ pages) (most : pages ≤ 1024)
    (room : suc (pages_used half (length (full_runs half source))) ≤ pages) where
  abbrev img : List ℕ
  img = rebuilt_bytes half source pages

  abbrev h : Head
  h = head half source

  suited : Suited half pages h.kind h.window h.changes (full_runs half source)
  unfolding head
  suited =
      let own = (sound_own half source fits).named in
      let g = (sound_facts half source fits).fit.head in
      record {
        half_least = own.least;
        half_most = own.most;
        pages_least = least;
        pages_most = most;
        kind_fits = g.kind_fits;
        window_fits = g.window_fits;
        changes_most = g.changes_most;
        spans = tiles_seg (full_tiles half source fits);
        bounded = paired_bounds h (full_paired half source fits);
        fits = room;
      }

  pub rebuilt_sound : sound half img ≡ true
  unfolding rebuilt_bytes full_runs runs_over
  rebuilt_sound =
      tight_sound half pages h.kind h.window h.changes (full_runs half source) suited
      (λ k. differ_joined (walk_over half source 0 END).runs)

  pub rebuilt_is_bytes : Bytes img
  unfolding rebuilt_bytes
  rebuilt_is_bytes = tight_bytes half pages h.kind h.window h.changes (full_runs half source) suited

  pub rebuilt_length : length img ≡ page_size half * pages
  unfolding rebuilt_bytes
  rebuilt_length = tight_length half pages h.kind h.window h.changes (full_runs half source) suited

  pub rebuilt_head : head half img ≡ (tight half pages h.kind h.window h.changes (full_runs half source)).head
  unfolding rebuilt_bytes head image_of
  rebuilt_head = tight_head_read_back half pages h.kind h.window h.changes (full_runs half source) suited

  pub rebuilt_laid_out : LaidOut half img (suc (pages_used half (length (full_runs half source)))) (full_runs half source)
  unfolding rebuilt_bytes
  rebuilt_laid_out = tight_laid_out half pages h.kind h.window h.changes (full_runs half source) suited

  -- each instant finds what it finds in the source
  pub rebuilt_look : (t : ℕ) → t < END → (look_up half img t).pair ≡ (look_up half source t).pair
  unfolding rebuilt_bytes
  rebuilt_look t below =
      (tight_look half pages h.kind h.window h.changes (full_runs half source) suited t).pair
      ∙ tiles_pair (λ u. (look_up half source u).pair) _ t (full_tiles half source fits) below

  -- the field has the capacity as a number, also where the source has FF there
  pub rebuilt_field : capacity_field img ≡ capacity half
  unfolding tight head
  rebuilt_field =
      let some : 1 ≤ half = omega (arith, (sound_own half source fits).named.least) in
      sym (field_read half img some) ∙ ap (λ (g : Head). g.capacity) rebuilt_head

  pub named_field : capacity half ≡ capacity_named (capacity_field source)
  named_field =
      let some : 1 ≤ half = omega (arith, (sound_own half source fits).named.least) in
      sym (field_is half _ (sound_facts half source fits).fit.head.field_fits).1 ∙ ap capacity_named (field_read half source some)

-- ---- an accepted rebuild

module _ (half : ℕ) (source target scratch : List ℕ) (n : (rebuild borrowed half source target scratch).status ≡ 0) where
  pub record Passed : Type 0 where
    pub fits : sound_before half source ≡ true
    pub whole : length_ok half target ≡ true
    pub room : suc (pages_used half (length (full_runs half source))) ≤ pages_in half target

  pub passed : Passed
  unfolding rebuild rebuild_status audit_input_rows too_small
  passed =
      let a = first_none 16 _ _ (omega arith) n in
      let b = first_none 17 _ _ (omega arith) a.1 in
      let c = first_none 21 _ _ (omega arith) b.1 in
      let d = first_none 16 _ _ (omega arith) c.1 in
      let e = first_none 24 _ _ (omega arith) d.1 in
      record {
        fits = not-false _ c.0;
        whole = not-false _ d.0;
        room = omega (arith, ltb-false (pages_in half target) (suc (pages_used half (length (full_runs half source)))) e.0);
      }

  pub target_is : (rebuild borrowed half source target scratch).target ≡ rebuilt_bytes half source (pages_in half target)
  unfolding rebuild
  target_is = ap (λ k. cond (eqb k 0) (rebuilt_bytes half source (pages_in half target)) target) n

  abbrev p : Passed
  p = passed

  pub range : (2 ≤ pages_in half target) × (pages_in half target ≤ 1024)
  range = pages_range half target p.whole

  -- the same book
  pub kept_rebuilt : {B : Book} → TraceInvariant half source B → TraceInvariant half (rebuilt_bytes half source (pages_in half target)) B
  unfolding tight
  kept_rebuilt K =
      let same = rebuilt_head half source p.fits (pages_in half target) range.0 range.1 p.room in
      record {
        bytes = rebuilt_is_bytes half source p.fits (pages_in half target) range.0 range.1 p.room;
        sound = rebuilt_sound half source p.fits (pages_in half target) range.0 range.1 p.room;
        kind = ap (λ (g : Head). g.kind) same ∙ K.kind;
        window = ap (λ (g : Head). g.window) same ∙ K.window;
        changes = ap (λ (g : Head). g.changes) same ∙ K.changes;
        pairs =
            λ t below.
            rebuilt_look half source p.fits (pages_in half target) range.0 range.1 p.room t below
            ∙ K.pairs t below;
      }

  pub field_rebuilt : capacity_field (rebuilt_bytes half source (pages_in half target)) ≡ capacity_named (capacity_field source)
  field_rebuilt =
      rebuilt_field half source p.fits (pages_in half target) range.0 range.1 p.room
      ∙ named_field half source p.fits (pages_in half target) range.0 range.1 p.room
