-- `listing::passes::walk_root` meets its contract: it is the walk from the root's cursor. Assumes nothing.
use Rattle.std.proofs.Common.{◌≡◌, ℕ, ◌≤◌, Bool, List, sym, ap, ◌∙◌}
use mathlib.Core.Path.{subst⁻¹}
use Rattle.rule.specs.Pairs.{none}
use Rattle.page.specs.Fit.{PageContext, root_context}
use Rattle.image.specs.Listing.{walk_over}
use Rattle.runs.specs.Open.{no_run}
use Rattle.access.specs.Access.{OpenImage}
use Rattle.access.proofs.Laws.{opened_ranges}
use Rattle.listing.specs.declared.SpanQuery.{SpanQuery}
use Rattle.listing.specs.declared.Cursor.{Cursor}
use Rattle.listing.specs.Walks.{page_walk, root_cursor, Room}
use Rattle.listing.specs.Cursors.{ValidCursor}
use Rattle.listing.proofs.Laws.Stands.{sits_root}
use Rattle.listing.proofs.Laws.Roots.{root_walk}
use Rattle.listing.proofs.Laws.Loops.{does_stopped, room_known, opened_unfit}
use Rattle.listing.proofs.passes.walk_root.Goals as goal

-- the root's cursor, as the code has it
abbrev on : PageContext → SpanQuery → Cursor
on at q = record { at = at; page = q.head.root; above = none }

is_root : {at : PageContext} (q : SpanQuery) → at ≡ root_context q.head → on at q ≡ root_cursor q.head
is_root q e = λ j. record { at = e j; page = q.head.root; above = none }

module _ {img : List ℕ} {at : PageContext} (q : SpanQuery) (e : at ≡ root_context q.head)
    (pre : (1 ≤ q.half) × (q.half ≤ 12) × OpenImage q.half img q.head) where
  stands : ValidCursor img q (on at q)
  stands = subst⁻¹ (ValidCursor img q) (is_root q e) (sits_root q pre.0 pre.1 pre.2)

  whole : page_walk img q (on at q) ≡ walk_over q.half img q.a q.b
  whole = ap (page_walk img q) (is_root q e) ∙ root_walk q pre.2

  room : {known writing : Bool} {out : List ℕ} → Room known writing no_run (walk_over q.half img q.a q.b) out
      → Room known writing no_run (page_walk img q (on at q)) out
  room h = rw whole h

pub root_context-requires : goal.root_context-requires
root_context-requires g c = (opened_ranges c.requires.opened.2).height_least

pub check_page-requires : goal.check_page-requires
check_page-requires g c =
    let w = c.requires in
    let e = c.root_context.ensures in
    record { valid_cursor = stands _ e w.opened; known_fit = room_known _ _ _ (room c.args.q e w.opened w.room) }

pub returns-in_err-n : goal.returns-in_err-n
returns-in_err-n g c =
    rw (c.from_residual.ensures, sym (whole c.args.q c.root_context.ensures c.requires.opened) ∙ opened_unfit _ _ _ c.in_err-n.ensures)
    (does_stopped _ _ _)

pub walk_page-requires : goal.walk_page-requires
walk_page-requires g c =
    let w = c.requires in
    let e = c.root_context.ensures in
    record { valid_cursor = stands _ e w.opened; fit_page = c.in_ok-n.ensures; room = room c.args.q e w.opened w.room }

pub returns : goal.returns
returns g c = rw (whole c.args.q c.root_context.ensures c.requires.opened) at c.walk_page.ensures
