-- A page with its new entries, split if they are too many: the same on the image as on the tree that it shows. Assumes nothing.
use Prim.Native.Nat.{ℕ, suc, ◌+◌, ◌≤◌}
use mathlib.Core.Path.{◌≡◌, refl, ap, ◌∙◌}
use mathlib.Core.List.{[], ◌∷◌}
use native.Mathlib.Omega.{arith}
use lib.Dec.{leb}
use lib.ListN.{length, take, drop, length-map}
use Rattle.lists.specs.Lists.{All, all_none, all_more, hit}
use Rattle.lists.proofs.Choices.{cond_both}
use Rattle.lists.proofs.Edits.{map_take, map_drop}
use Rattle.lists.proofs.All.{all_take, all_drop}
use Rattle.page.specs.declared.Entry.{Entry}
use Rattle.page.specs.Entries.{entry, at}
use Rattle.page.specs.Layout.{capacity}
use Rattle.image.specs.Images.{Image, Cell, tree}
use Rattle.lists.specs.Lists.{times}
use Rattle.steps.specs.Supply.{put, taken}
use Rattle.steps.specs.Cut.{Cutting as CuttingX, not_split as not_split_x, split as split_x, split_if_full as split_if_full_x}
use Rattle.steps.proofs.Supply.{put_head, taken_page}
use Rattle.tree.specs.Tree.{Node, Subtree, Nodes, flat}
use Rattle.tree.specs.Supply.{Supply, next_page, without_next}
use Rattle.tree.specs.Cut.{Cutting, not_split, split, split_if_full}
use Rattle.tree.specs.Conserved.{times_below, times_spare}
use Rattle.refinement.specs.Represents.{Stores, Supplied}
use Rattle.refinement.proofs.Below.{under_suc, below_cons, below_one, below_halves}
use Rattle.refinement.proofs.Moves.{Frame, put_else, stores_move, all_stores, put_stores, lasting, put_supplied, spare_next}
use Rattle.refinement.proofs.Moves.{spare_is, taken_supplied, taken_lasting}
use Rattle.tree.specs.Counts.{later}
use Rattle.refinement.proofs.Taking.{firsts, firsts_none, firsts_more}

-- What the cut of an entry does to an image and to the tree that it shows. Before counts the pages that were below the entry, W
-- those that may be written besides pages taken.
pub record EntryCut (l : ℕ) (e : Entry) (X : Image) (S : Supply) (before W : ℕ → ℕ) (r : CuttingX) (r' : Cutting (Subtree l)) : Type
    0 where
  pub took : ℕ
  pub same : r.became ≡ flat r'.became
  pub some : 1 ≤ length r'.became
  pub one : length r.became ≡ 1 → r.became ≡ e ∷ []
  pub shows : All (λ y. Stores l r.image.page y) r'.became
  pub rest : r'.supply ≡ later took S
  pub supplied : Supplied r.image r'.supply
  pub pages : (q : ℕ) → times_below l q r'.became ≡ before q + times q (firsts took S)
  pub frame : Frame X.page r.image.page (λ q. W q + times q (firsts took S))
  pub head : lasting r.image.head ≡ lasting X.head

module _ (half l : ℕ) (x : Node (Subtree (suc l))) (es : Nodes l) (Z : Image) (R : Supply)
    (a : All (λ y. Stores l Z.page y) es) (s : Supplied Z R)
    (once : (q : ℕ) → hit q x.entry.child + times_below l q es + times_spare q R ≤ 1) where
  abbrev Settles : CuttingX → Cutting (Subtree (suc l)) → Type 0
  Settles r r' = EntryCut (suc l) x.entry Z R (λ q. hit q x.entry.child + times_below l q es) (λ q. hit q x.entry.child) r r'

  keeps : Settles (not_split_x l x.entry (flat es) Z) (not_split x es R)
  unfolding not_split_x not_split later
  keeps =
      let p = x.entry.child in
      let v : Node (Subtree (suc l)) = record { entry = x.entry; subtree = es } in
      record {
        took = 0;
        same = refl;
        some = omega arith;
        one = λ h. refl;
        shows = all_more (put_stores l Z x.entry es a (λ q. omega (arith, once q))) all_none;
        rest = refl;
        supplied = put_supplied p (tree l (flat es)) s (λ q. omega (arith, once q));
        pages = λ q. omega (arith, below_one (suc l) q v, under_suc l q v, firsts_none q R);
        frame = λ q h. put_else p (tree l (flat es)) Z q (omega arith);
        head = ap lasting (put_head p (tree l (flat es)) Z);
      }

  abbrev left : Nodes l
  left = take half es

  abbrev right : Nodes l
  right = drop half es

  abbrev y : Node (Subtree (suc l))
  y = record { entry = x.entry; subtree = left }

  abbrev z : Node (Subtree (suc l))
  z = record { entry = entry (at (flat right) 0).start x.entry.pair (next_page R); subtree = right }

  abbrev Z₁ : Image
  Z₁ = taken Z

  abbrev Z₂ : Image
  Z₂ = put x.entry.child (tree l (flat left)) Z₁

  abbrev Z₃ : Image
  Z₃ = put (next_page R) (tree l (flat right)) Z₂

  room : (q : ℕ)
      → hit q x.entry.child + (times_below l q left + times_below l q right)
      + (hit q (next_page R) + times_spare q (without_next R)) ≤ 1
  room q = omega (arith, once q, below_halves l q half es, spare_next q R)

  taken_represented : All (λ v. Stores l Z₁.page v) es
  taken_represented = rw (taken_page Z) a

  left_represented : Stores (suc l) Z₃.page y
  left_represented =
      stores_move (suc l) (λ q. hit q (next_page R)) (put_else (next_page R) (tree l (flat right)) Z₂) y
      (put_stores l Z₁ x.entry left (all_take half taken_represented) (λ q. omega (arith, room q)))
      (λ q. omega (arith, room q, under_suc l q y))

  right_represented : Stores (suc l) Z₃.page z
  right_represented =
      put_stores l Z₂ z.entry right
      (all_stores l (λ q. hit q x.entry.child) (put_else x.entry.child (tree l (flat left)) Z₁)
      (all_drop half taken_represented) (λ q. omega (arith, room q)))
      (λ q. omega (arith, room q))

  split_supplied : Supplied Z₃ (without_next R)
  split_supplied =
      put_supplied (next_page R) (tree l (flat right))
      (put_supplied x.entry.child (tree l (flat left)) (taken_supplied s) (λ q. omega (arith, room q)))
      (λ q. omega (arith, room q))

  one_taken : (q : ℕ) → times q (firsts 1 R) ≡ hit q (next_page R)
  unfolding later
  one_taken q = omega (arith, firsts_more q 0 R, firsts_none q R)

  splits : Settles (split_x half l x.entry (flat es) Z) (split half x es R)
  unfolding split_x split later
  splits =
      rw (← map_take (λ v. v.entry) half es, ← map_drop (λ v. v.entry) half es, spare_is s)
      (record {
        took = 1;
        same = refl;
        some = omega arith;
        one = λ h. absurd (omega arith);
        shows = all_more left_represented (all_more right_represented all_none);
        rest = refl;
        supplied = split_supplied;
        pages =
            λ q. omega (
              arith,
              below_cons (suc l) q y (z ∷ []),
              below_one (suc l) q z,
              under_suc l q y,
              under_suc l q z,
              below_halves
                  l q half es,
              one_taken q,
            );
        frame =
            λ q h. put_else (next_page R) (tree l (flat right)) Z₂ q (omega (arith, h, one_taken q))
            ∙ put_else x.entry.child (tree l (flat left)) Z₁ q (omega arith)
            ∙ ap (λ (f : ℕ → Cell). f q) (taken_page Z);
        head =
            ap lasting (put_head (next_page R) (tree l (flat right)) Z₂ ∙ put_head x.entry.child (tree l (flat left)) Z₁)
            ∙ taken_lasting Z;
      })

  pub splits_if_full : EntryCut (suc l) x.entry Z R (λ q. hit q x.entry.child + times_below l q es)
      (λ q. hit q x.entry.child) (split_if_full_x half l x.entry (flat es) Z) (split_if_full half x es R)
  unfolding split_if_full_x split_if_full
  splits_if_full =
      cond_both Settles
      (leb (length (flat es)) (capacity half)) (leb (length es) (capacity half))
      (ap (λ (n : ℕ). leb n (capacity half)) (length-map es (λ y. y.entry)))
      (λ e. keeps) (λ e. splits)
