-- `edge_met` calls itself on the page below and meets its contract. Assumes nothing.
use Rattle.std.proofs.Common.{◌≡◌, ℕ, List, ◌∙◌, arith}
use Rattle.rule.specs.Pairs.{combine}
use Rattle.image.specs.Images.{Image}
use Rattle.steps.specs.Supply.{entries}
use Rattle.store.specs.declared.Found.{Found}
use Rattle.store.specs.Encoding.{Encodes, PostLevel}
use Rattle.store.specs.Preconditions.{Searchable, found_in}
use Rattle.store.proofs.Encoding.{readied}
use Rattle.heal.specs.Edges.{EdgeReadable}
use Rattle.heal.proofs.Sides.{edge_leaf, way, FoundWay, found_way}
use Rattle.heal.proofs.edges.+edge_met.Goals as goal

-- what was found in an inner page, of every image that the bytes encode
found : (kind : ℕ) {half level p t : ℕ} {img : List ℕ} {m : Found} (hi : ℕ) → (level ≡ 0 → ⊥)
    → PostLevel half img (λ v. Searchable v p t) (λ v X. m ≡ found_in hi t (entries X p)) → (X : Image) → Encodes half img X
    → EdgeReadable (combine kind) t level p X → FoundWay (combine kind) t p level X m
found kind hi inner finds X h s = found_way _ _ _ X inner hi (finds X h _ (way _ _ _ inner s).searchable) s

pub returns-then-level-eq0 : goal.returns-then-level-eq0
returns-then-level-eq0 n c X h s = edge_leaf _ _ _ X c.if-level-eq0.true

pub find_entry-found-requires : goal.find_entry-found-requires
find_entry-found-requires n c = readied c.requires (λ X h s. (_, (way _ _ _ c.if-level-eq0.false s).searchable))

pub sides_agree-requires : goal.sides_agree-requires
sides_agree-requires n c =
    readied c.requires
    (λ X h s. (found c.args.kind c.args.hi c.if-level-eq0.false c.find_entry-found.ensures X h s).sides c.if-found-t.true)

pub returns-then-found-t : goal.returns-then-found-t
returns-then-found-t n c X h s =
    let k = found c.args.kind c.args.hi c.if-level-eq0.false c.find_entry-found.ensures X h s in
    c.sides_agree.ensures X h (k.sides c.if-found-t.true) ∙ k.parted c.if-found-t.true

pub edge_met-requires : goal.edge_met-requires
edge_met-requires n c = (
  omega (arith, c.if-level-eq0.false),
  readied c.requires
      (λ X h s. (found c.args.kind c.args.hi c.if-level-eq0.false c.find_entry-found.ensures X h s).below c.if-found-t.false),
)

pub returns-else-found-t : goal.returns-else-found-t
returns-else-found-t n c X h s =
    let k = found c.args.kind c.args.hi c.if-level-eq0.false c.find_entry-found.ensures X h s in
    c.edge_met.ensures X h (k.below c.if-found-t.false) ∙ k.on c.if-found-t.false
