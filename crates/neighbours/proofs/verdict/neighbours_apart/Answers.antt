-- `neighbours::verdict::neighbours_apart` meets its contract: by the walk from the root. Assumes nothing.
use Rattle.std.proofs.Common.{◌≡◌, ◌-◌, length, ap, ◌∙◌, arith}
use Rattle.page.specs.Layout.{head_of}
use Rattle.page.specs.declared.Head.{Head}
use Rattle.soundness.proofs.Sound.{the_head, sound_facts}
use Rattle.access.proofs.Laws.{page_length}
use Rattle.neighbours.specs.declared.Edges.{Edges}
use Rattle.neighbours.specs.Edges.{page_edges}
use Rattle.neighbours.proofs.Found.{apart_found}
use Rattle.neighbours.proofs.Laws.{head_within, root_standing}
use Rattle.neighbours.proofs.verdict.neighbours_apart.Goals as goal

pub page_at-requires : goal.page_at-requires
page_at-requires c =
    let s = c.requires.sound_before in
    head_within (root_standing s.0 s.1 s.2 c.requires.totals)

pub read_head-h-requires : goal.read_head-h-requires
read_head-h-requires c =
    let s = c.requires.sound_before in
    let root = root_standing s.0 s.1 s.2 c.requires.totals in
    omega (arith, ap length c.page_at.ensures, page_length c.args.half c.args.img.now 0 (head_within root))

pub overflow_sub-h : goal.overflow_sub-h
overflow_sub-h c =
    let head : c.read_head-h.result ≡ the_head c.args.half c.args.img.now = c.read_head-h.ensures ∙ ap head_of c.page_at.ensures in
    omega (
      arith,
      ap (λ (h : Head). h.height) head,
      (sound_facts c.args.half c.args.img.now c.requires.sound_before.2).fit.head.height_least,
    )

pub page_edges-requires : goal.page_edges-requires
page_edges-requires c =
    let s = c.requires.sound_before in
    rw (c.read_head-h.ensures ∙ ap head_of c.page_at.ensures) (root_standing s.0 s.1 s.2 c.requires.totals)

pub returns : goal.returns
returns c =
    let half = c.args.half in
    let img = c.args.img.now in
    let s = c.requires.sound_before in
    ap (λ (e : Edges). e.apart) c.page_edges.ensures
    ∙ ap (λ (h : Head). (page_edges half img (h.height - 1) h.root).apart) (c.read_head-h.ensures ∙ ap head_of c.page_at.ensures)
    ∙ apart_found half img (omega arith) s.2 c.requires.totals
