-- `rebuild::targets::fill_target` meets its contract: a law for each way out. Assumes nothing.
use Rattle.std.proofs.Common.{rules, refl, ◌≡◌, Some, None, Option, IsSome, sym, ◌∙◌, ◌<◌, ℕ, true, List, length, ap, arith}
use Rattle.page.specs.declared.Head.{Head}
use Rattle.image.specs.Images.{pages_in}
use Rattle.image.specs.Sound.{sound_before}
use Rattle.soundness.proofs.Sound.{sound_whole}
use Rattle.tight.specs.Tight.{pages_used}
use Rattle.access.specs.Access.{OpenImage, head_check}
use Rattle.access.proofs.Laws.{opened}
use Rattle.image.specs.Listing.{walk_over, join}
use Rattle.rule.specs.Time.{END}
use Rattle.calls.specs.Calls.{runs_over, full_runs}
use Rattle.answers.proofs.Sound.{sound_walk}
use Rattle.rebuild.specs.Levels.{tree_size}
use Rattle.rebuild.specs.declared.TreeSize.{TreeSize}
use Rattle.rebuild.proofs.Laws.Targets.{not_shut, some_told, fills_not, rebuildable, fills}
use Rattle.rebuild.proofs.targets.fill_target.Goals as goal

headed : {half : ℕ} {source : List ℕ} {h : Head} → sound_before half source ≡ true → Some h ≡ head_check half source → OpenImage half source h
headed fits e = opened _ _ (sound_whole _ _ fits) e

-- the runs counted are those of the full listing
runs_told : (half : ℕ) (source : List ℕ) {m : ℕ} → m ≡ length (join (walk_over half source 0 END).runs) → m ≡ length (full_runs half source)
unfolding full_runs runs_over
runs_told half source e = e

-- the pages that the tree takes
used : (half m : ℕ) {tree : TreeSize} → tree ≡ tree_size half m → tree.pages ≡ pages_used half m
unfolding tree_size
used half m e = ap (λ (t : TreeSize). t.pages) e

pub open_head-requires : goal.open_head-requires
open_head-requires c = (c.requires.capacity_bounds.0, c.requires.capacity_bounds.1, sound_whole _ _ c.requires.sound_source.0)

is_there : (o : Option Head) → (None ≡ o → ⊥) → IsSome o
is_there None n = absurd (n refl)
is_there (Some h) n = search rules

pub unwrap-h-requires : goal.unwrap-h-requires
unwrap-h-requires c = is_there _ (λ e. not_shut _ _ c.requires.sound_source.0 (e ∙ c.open_head.ensures))

-- the audit has found every page fit
pub count_known_runs-runs-requires : goal.count_known_runs-runs-requires
count_known_runs-runs-requires c =
    let pre = c.requires in
    let fits = pre.sound_source.0 in
    record { opened = (omega (arith, pre.capacity_bounds), pre.capacity_bounds.1, headed fits (sym c.unwrap-h.ensures ∙ c.open_head.ensures)); all_fit = sound_walk _ _ fits _ _ }

pub tree_size-tree-requires : goal.tree_size-tree-requires
tree_size-tree-requires c =
    let pre = c.requires in
    (pre.capacity_bounds.0, pre.capacity_bounds.1, some_told _ _ pre.sound_source.0 _ (runs_told _ _ c.count_known_runs-runs.ensures))

pub returns-then-page_count-tree : goal.returns-then-page_count-tree
returns-then-page_count-tree c =
    fills_not _ _ c.requires.sound_source.0 _ (runs_told _ _ c.count_known_runs-runs.ensures) _
    (omega (arith, c.if-page_count-tree.true, used _ _ c.tree_size-tree.ensures, c.page_count.ensures))

pub write_tight-requires : goal.write_tight-requires
write_tight-requires c =
    let pre = c.requires in
    let fits = pre.sound_source.0 in
    let room : pages_used c.args.half c.count_known_runs-runs.result < pages_in c.args.half c.args.target.now =
    omega (arith, c.if-page_count-tree.false, used _ _ c.tree_size-tree.ensures, c.page_count.ensures) in (
      rebuildable _ _ fits _ (runs_told _ _ c.count_known_runs-runs.ensures) _ room pre.capacity_bounds.0 pre.capacity_bounds.1
          (headed fits (sym c.unwrap-h.ensures ∙ c.open_head.ensures)) pre.sound_source.1,
      c.tree_size-tree.ensures,
    )

pub returns : goal.returns
returns c =
    let room : pages_used c.args.half c.count_known_runs-runs.result < pages_in c.args.half c.args.target.now =
    omega (arith, c.if-page_count-tree.false, used _ _ c.tree_size-tree.ensures, c.page_count.ensures) in
    fills _ _ c.requires.sound_source.0 _ (runs_told _ _ c.count_known_runs-runs.ensures) _ room c.write_tight.ensures
