-- What an accepted rebuild leaves, of every source: the calls on the target answer as those on the source. Assumes nothing.
use Prim.Native.Nat.{ℕ, suc, ◌+◌, ◌≤◌, ◌<◌}
use mathlib.Core.Path.{◌≡◌, refl, sym, ap, ◌∙◌, subst⁻¹}
use mathlib.Core.Bool.{true, cond}
use mathlib.Core.List.{List}
use native.Mathlib.Omega.{arith}
use native.Mathlib.Decide.{dec_lt}
use lib.ListN.{length}
use lib.Dec.{eqb}
use borrow.Author.Tests.{ltb-true, not-false}
use Rattle.rule.specs.declared.Average.TheVariants.{Nothing}
use Rattle.rule.specs.Time.{END}
use Rattle.rule.specs.Averages.{average}
use Rattle.page.specs.declared.Head.{Head}
use Rattle.image.specs.Images.{half_of, pages_in}
use Rattle.image.specs.Sound.{sound_before, sound}
use Rattle.image.specs.Instant.{look_up}
use Rattle.image.specs.Listing.{Run, walk_over, neighbours_differ}
use Rattle.image.proofs.Sizes.{sized}
use Rattle.image.proofs.Runs.{differ_joined}
use Rattle.tight.specs.Tight.{pages_used, tight, too_small}
use Rattle.tight.specs.Counts.{runs_walked}
use Rattle.tight.specs.Layout.{LaidOut}
use Rattle.soundness.proofs.Sound.{sound_facts, sound_old}
use Rattle.soundness.proofs.Counting.{sound_counted}
use Rattle.fewest.proofs.Fewest.{fewest_used, listing_few, no_more_on, no_higher}
use Rattle.calls.specs.Refusals.{borrowed}
use Rattle.calls.specs.Calls.{Instant, Rebuilt, head, instant, average_at, listing, runs_over, audit_input_rows, full_runs, rebuilt_bytes}
use Rattle.calls.specs.Calls.{rebuild_status, rebuild}
use Rattle.calls.specs.Index.{judge, index_rebuild}
use Rattle.claims.specs.Rebuild.{HeadLeft, AnswersKept, NoFewer, RebuiltFrom, EveryRebuild}
use Rattle.calls.proofs.Rows.{first_later, first_last}
use Rattle.calls.proofs.Judged.{by_judge, judge_not}
use Rattle.answers.proofs.Tiles.{runs_of_same}
use Rattle.answers.proofs.Full.{full_is}
use Rattle.answers.proofs.Agree.{listing_of_same}
use Rattle.answers.proofs.Sound.{sound_status, sound_pair, sound_listing}
use Rattle.answers.proofs.Own.{sound_own, judged_half, own_instant, own_average, own_listing, own_rebuild}
use Rattle.demands.proofs.Agree.{instant_end}
use Rattle.demands.proofs.Rebuilt.{rebuilt_sound, rebuilt_is_bytes, rebuilt_length, rebuilt_head, rebuilt_look, rebuilt_field, passed}
use Rattle.demands.proofs.Rebuilt.{rebuilt_laid_out}
use Rattle.demands.proofs.Rebuilt.{Passed, range, target_is}

-- ---- two sound images of one half in which every instant has the same pair

module _ (half : ℕ) (source img : List ℕ) (fits : sound_before half source ≡ true) (fits' : sound_before half img ≡ true)
    (kinds : (head half img).kind ≡ (head half source).kind)
    (looks : (t : ℕ) → t < END → (look_up half img t).pair ≡ (look_up half source t).pair) where
  same_instant : (t : ℕ)
      → ((instant half t img).status ≡ (instant half t source).status) × ((instant half t img).pair ≡ (instant half t source).pair)
  same_instant t = go (dec_lt t END)
    where
      go : Dec (t < END)
          → ((instant half t img).status ≡ (instant half t source).status) × ((instant half t img).pair ≡ (instant half t source).pair)
      go (yes l) = (
        sound_status half img fits' t l ∙ sym (sound_status half source fits t l),
        sound_pair half img fits' t l ∙ looks t l ∙ sym (sound_pair half source fits t l),
      )
      go (no l) =
          let a = instant_end half img fits' t (omega arith) in
          let b = instant_end half source fits t (omega arith) in
          (a.0 ∙ sym b.0, a.1 ∙ sym b.1)

  same_average : (t : ℕ) → average_at half t img ≡ average_at half t source
  unfolding average_at
  same_average t =
      let r = same_instant t in
      λ i. record { status = r.0 i; average = cond (eqb (r.0 i) 0) (average (kinds i) (r.1 i)) Nothing }

  same_listing : (a b : ℕ) (out : List ℕ) → listing half a b img out ≡ listing half a b source out
  same_listing a b out =
      sound_listing half img fits' a b out
      ∙ listing_of_same (λ t. (instant half t img).pair) (λ t. (instant half t source).pair) a b out (λ t l h below. (same_instant t).1)
      ∙ sym (sound_listing half source fits a b out)

  same_runs : full_runs half img ≡ full_runs half source
  same_runs =
      full_is half img fits'
      ∙ runs_of_same (λ t. (look_up half img t).pair) (λ t. (look_up half source t).pair) 0 END (omega arith) (λ t l below. looks t below)
      ∙ sym (full_is half source fits)

  -- and so the calls by the capacity that they name
  answers_kept : AnswersKept source img
  answers_kept =
      let o = sound_own half source fits in
      let o' = sound_own half img fits' in
      record {
        runs = ap (λ k. full_runs k img) o.named.is ∙ same_runs ∙ sym (ap (λ k. full_runs k source) o.named.is);
        listings = λ a b out. own_listing o' a b out ∙ same_listing a b out ∙ sym (own_listing o a b out);
        instants =
            λ t.
            let r = same_instant t in
            let i = own_instant o t in
            let i' = own_instant o' t in (
              ap (λ (x : Instant). x.status) i' ∙ r.0 ∙ sym (ap (λ (x : Instant). x.status) i),
              ap (λ (x : Instant). x.pair) i' ∙ r.1 ∙ sym (ap (λ (x : Instant). x.pair) i),
            );
        averages = λ t. own_average o' t ∙ same_average t ∙ sym (own_average o t);
      }

-- ---- the pages that a sound image uses, by its runs

used_by : (half : ℕ) (other : List ℕ) (runs : List Run) → sound_before half other ≡ true → full_runs half other ≡ runs
    → pages_used half (length runs) + (head half other).chain < (head half other).mark
unfolding head full_runs runs_over
used_by half other runs fits same =
    let c = sound_counted (sound_facts half other fits) in
    let few : length runs ≤ runs_walked half other = omega (arith, listing_few half other, ap length same) in
    omega (arith, fewest_used half other fits (length runs) few, c.count, c.fit.head.mark_least)

-- ---- an accepted rebuild

module _ (source target scratch : List ℕ) (n : (rebuild borrowed (half_of source) source target scratch).status ≡ 0) where
  abbrev half : ℕ
  half = half_of source

  abbrev pages : ℕ
  pages = pages_in half target

  abbrev img : List ℕ
  img = rebuilt_bytes half source pages

  abbrev p : Passed half source target scratch n
  p = passed half source target scratch n

  least : 2 ≤ pages
  least = (range half source target scratch n).0

  most : pages ≤ 1024
  most = (range half source target scratch n).1

  fits : sound half img ≡ true
  fits = rebuilt_sound half source p.fits pages least most p.room

  own : half_of img ≡ half
  own = (sound_own half img (sound_old half img fits)).named.is

  same_head : head half img
      ≡ (tight half pages (head half source).kind (head half source).window (head half source).changes (full_runs half source)).head
  same_head = rebuilt_head half source p.fits pages least most p.room

  head_left : HeadLeft source img
  unfolding tight
  head_left =
      let h : head (half_of img) img ≡ head half img = ap (λ k. head k img) own in
      let told = h ∙ same_head in
      record {
        half_is = own;
        field_is = rebuilt_field half source p.fits pages least most p.room;
        kind_is = ap (λ (g : Head). g.kind) told;
        window_is = ap (λ (g : Head). g.window) told;
        changes_are = ap (λ (g : Head). g.changes) told;
        root_is = ap (λ (g : Head). g.root) told;
        height_is = ap (λ (g : Head). g.height) told;
        no_first = ap (λ (g : Head). g.free) told;
        no_chain = ap (λ (g : Head). g.chain) told;
        mark_is = ap (λ (g : Head). g.mark) told;
      }

  mark_left : (head half img).mark ≡ suc (pages_used half (length (full_runs half source)))
  unfolding tight
  mark_left = ap (λ (g : Head). g.mark) same_head

  kept : AnswersKept source img
  kept =
      answers_kept half source img p.fits (sound_old half img fits) (unfold tight in ap (λ (g : Head). g.kind) same_head)
      (rebuilt_look half source p.fits pages least most p.room)

  length_kept : length img ≡ length target
  length_kept = rebuilt_length half source p.fits pages least most p.room ∙ sym (sized half target p.whole).size

  fewest : (other : List ℕ) → sound_before half other ≡ true → full_runs half other ≡ full_runs half source → NoFewer source img other
  unfolding head tight
  fewest other fits' same =
      let m : ℕ = length (full_runs half source) in
      let here : m ≤ runs_walked half img = omega (arith, entries img, ap length kept.runs) in
      let there : m ≤ runs_walked half other = omega (arith, entries other, ap length same) in
      let chain = ap (λ (g : Head). g.chain) same_head in
      let mark = ap (λ (g : Head). g.mark) same_head in
      record {
        on_levels = no_more_on half img other (sound_old half img fits) fits' m here there chain mark;
        levels = no_higher half img other (sound_old half img fits) fits' m here there chain mark;
        pages = omega (arith, mark_left, used_by half other (full_runs half source) fits' same);
      }
    where
      entries : (x : List ℕ) → length (full_runs half x) ≤ runs_walked half x
      entries x = unfold full_runs runs_over in listing_few half x

accepted_judged : (source target scratch : List ℕ) → (index_rebuild source target scratch).status ≡ 0 → judge source ≡ 0
unfolding index_rebuild
accepted_judged source target scratch =
    by_judge _ (λ half. rebuild borrowed half source target scratch) source (λ (b : Rebuilt). b.status ≡ 0 → judge source ≡ 0)
    (λ passes n. passes) (λ turned_back n. n)

-- a rebuild that was accepted is one by the capacity that its source names
accepted_half : (source target scratch : List ℕ) → (index_rebuild source target scratch).status ≡ 0
    → (index_rebuild source target scratch ≡ rebuild borrowed (half_of source) source target scratch)
    × ((rebuild borrowed (half_of source) source target scratch).status ≡ 0)
accepted_half source target scratch n =
    let e = own_rebuild (judged_half source (accepted_judged source target scratch n)) target scratch in
    (e, sym (ap (λ (b : Rebuilt). b.status) e) ∙ n)

left_by : (source target scratch : List ℕ) (n : (rebuild borrowed (half_of source) source target scratch).status ≡ 0)
    → RebuiltFrom source target (rebuilt_bytes (half_of source) source (pages_in (half_of source) target))
left_by source target scratch n =
    let half = half_of source in
    let p = passed half source target scratch n in
    let r = range half source target scratch n in
    let img = rebuilt_bytes half source (pages_in half target) in
    let laid = rebuilt_laid_out half source p.fits (pages_in half target) r.0 r.1 p.room in
    record {
      sound_after = ap (λ k. sound k img) (own source target scratch n) ∙ fits source target scratch n;
      bytes = rebuilt_is_bytes half source p.fits (pages_in half target) r.0 r.1 p.room;
      length_kept = length_kept source target scratch n;
      head_left = head_left source target scratch n;
      answers_kept = kept source target scratch n;
      laid_out =
          subst⁻¹ (λ k. LaidOut half img k (full_runs half source)) (mark_left source target scratch n) laid;
      neighbours =
          ap neighbours_differ laid.leaves ∙ (unfold full_runs runs_over in differ_joined (walk_over half source 0 END).runs);
      fewest = fewest source target scratch n;
    }

-- ---- 24: the source's own tree has no fewer pages

told_24 : (source target scratch : List ℕ) → (index_rebuild source target scratch).status ≡ 24
    → (sound_before (half_of source) source ≡ true)
    × (pages_in (half_of source) target < suc (pages_used (half_of source) (length (full_runs (half_of source) source))))
unfolding index_rebuild rebuild rebuild_status audit_input_rows too_small
told_24 source target scratch =
    by_judge _ (λ half. rebuild borrowed half source target scratch) source
    (λ (b : Rebuilt).
    b.status ≡ 24
    → (sound_before (half_of source) source ≡ true)
    × (pages_in (half_of source) target < suc (pages_used (half_of source) (length (full_runs (half_of source) source)))))
    (λ passes n.
    let a = first_later 16 24 _ _ (λ e. omega arith) n in
    let b = first_later 17 24 _ _ (λ e. omega arith) a.1 in
    let c = first_later 21 24 _ _ (λ e. omega arith) b.1 in
    let d = first_later 16 24 _ _ (λ e. omega arith) c.1 in
    (not-false _ c.0, ltb-true _ _ (first_last 24 _ (omega arith) d.1)))
    (λ turned_back n. absurd (judge_not source 24 (λ e. omega arith) (λ e. omega arith) (λ e. omega arith) n))

too_few : (source target scratch other : List ℕ) → (index_rebuild source target scratch).status ≡ 24
    → sound_before (half_of source) other ≡ true → full_runs (half_of source) other ≡ full_runs (half_of source) source
    → pages_in (half_of source) target + (head (half_of source) other).chain < (head (half_of source) other).mark
too_few source target scratch other n fits same =
    let half = half_of source in
    omega (arith, used_by half other (full_runs half source) fits same, (told_24 source target scratch n).1)

source_fits : (source target scratch : List ℕ) → (index_rebuild source target scratch).status ≡ 24
    → (pages_in (half_of source) target + (head (half_of source) source).chain < (head (half_of source) source).mark)
    × ((head (half_of source) source).mark ≤ pages_in (half_of source) source)
source_fits source target scratch n =
    let half = half_of source in
    let fits = (told_24 source target scratch n).0 in
    (too_few source target scratch source n fits refl, unfold head in (sound_facts half source fits).fit.head.mark_most)

pub every_rebuild : EveryRebuild
every_rebuild =
    record {
      of_accepted =
          λ source target scratch img left e.
          let q = accepted_half source target scratch (sym (ap (λ (b : Rebuilt). b.status) e)) in
          let image = ap (λ (b : Rebuilt). b.target) (e ∙ q.0) ∙ target_is (half_of source) source target scratch q.1 in
          subst⁻¹ (RebuiltFrom source target) image (left_by source target scratch q.1);
      of_24 = too_few;
      as_the_source = source_fits;
    }
