-- `luwhenoka::listings::list_runs` meets its contract: a law for each way out. Assumes nothing.
use Rattle.std.proofs.Common.{sym, ap, ◌∙◌, arith}
use Rattle.calls.specs.Calls.{head_ok, runs_over, written}
use Rattle.access.proofs.Laws.{opened, shut}
use Rattle.luwhenoka.specs.Answers.{listed_of}
use Rattle.luwhenoka.proofs.Laws.Judged.{handed_on_none}
use Rattle.luwhenoka.proofs.Laws.Listings.{counted, uncounted, listing_16, listing_11, listing_head, listing_21}
use Rattle.luwhenoka.proofs.Laws.Listings.{listing_15, listing_0}
use Rattle.luwhenoka.proofs.listings.list_runs.Goals as goal

pub returns-then-not-length_fits : goal.returns-then-not-length_fits
returns-then-not-length_fits c =
    listing_16 _ _ _ _ _ (sym c.if-not-length_fits.ensures)

pub returns-then-b-a : goal.returns-then-b-a
returns-then-b-a c =
    listing_11 _ _ _ _ _ (sym c.if-not-length_fits.ensures) c.if-b-a.true

-- any number that b can hold is at most END
pub returns-in_err-h : goal.returns-in_err-h
unfolding head_ok
returns-in_err-h c =
    let fits = sym c.if-not-length_fits.ensures in
    let nothing = c.in_err-h.ensures.ok_part in
    ap (λ r. listed_of r c.args.out.now) (handed_on_none _ _ _ _ c.from_residual.ensures c.in_err-h.ensures.value nothing)
    ∙ listing_head _ _ _ _ _ fits c.if-b-a.false (omega (arith, c.ranges.b))
    (shut _ _ (sym nothing ∙ c.open_head.ensures))

pub count_runs-requires : goal.count_runs-requires
count_runs-requires c =
    let fits = sym c.if-not-length_fits.ensures in
    (omega (arith, c.requires.0), c.requires.1, opened _ _ fits (sym c.in_ok-h.ensures.ok_part ∙ c.open_head.ensures))

pub returns-in_err-runs : goal.returns-in_err-runs
unfolding head_ok
returns-in_err-runs c =
    let fits = sym c.if-not-length_fits.ensures in
    let headed = opened _ _ fits (sym c.in_ok-h.ensures.ok_part ∙ c.open_head.ensures) in
    let nothing = c.in_err-runs.ensures.ok_part in
    ap (λ r. listed_of r c.args.out.now) (handed_on_none _ _ _ _ c.from_residual-in_err-runs.ensures c.in_err-runs.ensures.value nothing)
    ∙ listing_21 _ _ _ _ _ fits c.if-b-a.false (omega (arith, c.ranges.b)) headed.fit
    (uncounted _ _ _ _ (sym nothing ∙ c.count_runs.ensures))

-- the first pass found every page fit, and this many runs
pub returns-then-out-runs : goal.returns-then-out-runs
unfolding head_ok
returns-then-out-runs c =
    let fits = sym c.if-not-length_fits.ensures in
    let headed = opened _ _ fits (sym c.in_ok-h.ensures.ok_part ∙ c.open_head.ensures) in
    let n = counted _ _ _ _ (sym c.in_ok-runs.ensures.ok_part ∙ c.count_runs.ensures) in
    listing_15 _ _ _ _ _ fits c.if-b-a.false (omega (arith, c.ranges.b)) headed.fit n.fit
    (omega (arith, n.status, c.if-out-runs.true))

pub write_runs-requires-clause-opened : goal.write_runs-requires-clause-opened
write_runs-requires-clause-opened c =
    let fits = sym c.if-not-length_fits.ensures in
    (omega (arith, c.requires.0), c.requires.1, opened _ _ fits (sym c.in_ok-h.ensures.ok_part ∙ c.open_head.ensures))

pub write_runs-requires-clause-all_fit : goal.write_runs-requires-clause-all_fit
write_runs-requires-clause-all_fit c = (counted _ _ _ _ (sym c.in_ok-runs.ensures.ok_part ∙ c.count_runs.ensures)).fit

pub write_runs-requires-clause-room : goal.write_runs-requires-clause-room
unfolding runs_over
write_runs-requires-clause-room c =
    let n = counted _ _ _ _ (sym c.in_ok-runs.ensures.ok_part ∙ c.count_runs.ensures) in
    omega (arith, n.status, c.if-out-runs.false)

pub returns : goal.returns
unfolding head_ok written runs_over
returns c =
    let fits = sym c.if-not-length_fits.ensures in
    let headed = opened _ _ fits (sym c.in_ok-h.ensures.ok_part ∙ c.open_head.ensures) in
    let n = counted _ _ _ _ (sym c.in_ok-runs.ensures.ok_part ∙ c.count_runs.ensures) in
    (λ j. record { status = 0; runs = n.status j; output = c.write_runs.ensures j })
    ∙ listing_0 _ _ _ _ _ fits c.if-b-a.false (omega (arith, c.ranges.b)) headed.fit n.fit
    (omega (arith, n.status, c.if-out-runs.false))
