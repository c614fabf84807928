-- Demands 2 and 3, of every list of calls. Assumes nothing.
use Prim.Native.Nat.{ℕ, ◌<◌}
use mathlib.Core.Path.{◌≡◌, sym, ap, ◌∙◌}
use mathlib.Core.List.{List}
use native.Mathlib.Omega.{arith}
use lib.ListN.{length}
use Rattle.rule.specs.Time.{END}
use Rattle.rule.specs.Averages.{average}
use Rattle.calls.specs.Changes.{Change}
use Rattle.image.specs.Sound.{sound}
use Rattle.calls.specs.Calls.{Instant, head}
use Rattle.calls.specs.Index.{index_instant, index_listing}
use Rattle.book.specs.Book.{Book, book_of, book_pair}
use Rattle.book.specs.Aggregate.{aggregate}
use Rattle.claims.specs.Trace.{Trace, formatted, formatted_before, extended, rebuilt, Throughout}
use Rattle.claims.specs.Demands.{Demand2, Demand3List, SameChanges, Headed, TheDemands}
use Rattle.calls.proofs.Tables.{turned_back}
use Rattle.claims.proofs.Steps.{steps}
use Rattle.answers.proofs.Demand.{demand_1}
use Rattle.answers.proofs.Until.{until_when}
use Rattle.soundness.proofs.Sound.{sound_old}
use Rattle.answers.proofs.Own.{sound_own}
use Rattle.demands.proofs.Book.Books.{book_fed, book_is, items_length}
use Rattle.demands.proofs.Book.Aggregates.{book_aggregate, aggregate_live}
use Rattle.demands.proofs.Book.Listings.{book_listing, listing_same_changes}
use Rattle.demands.proofs.Agree.{instant_told, average_told, listing_told, as_the_book}
use Rattle.demands.proofs.Accepted.{every_change}
use Rattle.demands.proofs.Rebuilds.{every_rebuild}
use Rattle.demands.proofs.Traces.{Reached, reached, book_kind}

module _ {kind window field : ℕ} where
  demand_2 : {img : List ℕ} {cs : List Change} → Reached kind window field img cs → Demand2 kind window img cs
  demand_2 {img} {cs} R =
      record {
        instants = told;
        holding = λ t u l a b.
            let k = until_when.holds t img (told t l).0 in
            sym (told u (omega (arith, k.most))).1 ∙ ap (λ (r : Instant). r.pair) (k.same u a b) ∙ (told t l).1;
        averages =
            λ t l. average_told R.kept t l
            ∙ (λ i. record { status = 0; average = average (book_kind kind window cs i) (pair_is t l i) });
        spans = λ a b out. listing_told R.kept a b out ∙ book_listing kind window a b out R.spanned R.sided;
        sound_after = ap (λ half. sound half img) (sound_own R.half img (sound_old R.half img R.kept.sound)).named.is ∙ R.kept.sound;
        live = λ m t. aggregate_live kind window t R.sided m;
      }
    where
      pair_is : (t : ℕ) → t < END → book_pair (book_of kind window cs) t ≡ aggregate kind window cs t
      pair_is t l = book_aggregate kind window t l R.spanned R.sided

      told : (t : ℕ) → t < END → ((index_instant t img).status ≡ 0) × ((index_instant t img).pair ≡ aggregate kind window cs t)
      told t l = let r = instant_told R.kept t l in (r.0, r.1 ∙ pair_is t l)

  headed : {img : List ℕ} {cs : List Change} → Reached kind window field img cs → Headed kind window field img cs
  headed {img} {cs} R =
      let own = (sound_own R.half img (sound_old R.half img R.kept.sound)).named.is in
      record {
        bytes = R.kept.bytes;
        kind_is = ap (λ half. (head half img).kind) own ∙ R.kept.kind ∙ book_kind kind window cs;
        window_is = ap (λ half. (head half img).window) own ∙ R.kept.window ∙ ap (λ (B : Book). B.window) (book_is kind window cs);
        changes_are =
            ap (λ half. (head half img).changes) own ∙ R.kept.changes ∙ ap (λ (B : Book). length B.items) (book_is kind window cs)
            ∙ items_length window cs;
        field_is = R.field_is;
      }

demand_3_list : {kind window field : ℕ} {img : List ℕ} {cs : List Change} (T : Trace kind window field img cs) → Demand3List T
unfolding Demand3List Throughout
demand_3_list (formatted before p) = as_the_book (reached (formatted before p)).kept
demand_3_list (formatted_before before p) = as_the_book (reached (formatted_before before p)).kept
demand_3_list (extended T step) = (demand_3_list T, as_the_book (reached (extended T step)).kept)
demand_3_list (rebuilt target scratch T p) = (demand_3_list T, as_the_book (reached (rebuilt target scratch T p)).kept)

demand_3_two : {kind window field other_field : ℕ} {img other : List ℕ} {cs ds : List Change} → Reached kind window field img cs
    → Reached kind window other_field other ds → SameChanges cs ds
    → (out : List ℕ) → index_listing 0 END img out ≡ index_listing 0 END other out
demand_3_two {kind} {window} R Q S out =
    listing_told R.kept 0 END out
    ∙ listing_same_changes kind window 0 END out S R.sided Q.sided
    ∙ sym (listing_told Q.kept 0 END out)

pub the_demands : TheDemands
the_demands =
    record {
      demand_1 = demand_1;
      demand_1_statuses = turned_back;
      until_when = until_when;
      every_rebuild = every_rebuild;
      steps = steps;
      fed = book_fed;
      demand_2 = λ T. demand_2 (reached T);
      demand_3_list = demand_3_list;
      demand_3_two = λ T U. demand_3_two (reached T) (reached U);
      demand_3_one = every_change;
      headed = λ T. headed (reached T);
    }
