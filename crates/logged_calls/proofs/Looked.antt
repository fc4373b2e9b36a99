-- A node that has read what a call asks for.
use Rattle.std.proofs.Common.{◌≡◌, ◌<◌, ◌≤◌, ℕ, List, length, false, Option, None, Some, inl, inr, refl, sym, ap, subst, ◌∙◌}
use Rattle.std.specs.List.{AllByRecursion}
use Rattle.std.specs.Cmp.{nat_cmp_total}
use Rattle.std.specs.FinMap.{get, insert, nat_cmp-IsAntisymmetric}
use Rattle.std.proofs.lemmas.Bool.{cases_eq}
use Rattle.finite_maps.proofs.Keys.{inserted_apart}
use Rattle.glock_names.specs.Views.{end_of}
use Rattle.lone_answers.specs.Reading.{HasRead, Nothing, OneMore}
use Rattle.lone_view.specs.Seeing.{Lone}
use Rattle.shared_disk.specs.Disk.{DiskState, Operation}
use Rattle.logged_answers.specs.Points.{Point}
use Rattle.logged_answers.specs.Steps.{Here, Reads, Step, Steps, Then}
use Rattle.logged_node.specs.declared.node.Node.{Node}
use Rattle.logged_node.specs.Nodes.{IsNodeOn, point_of}
use Rattle.logged_node.proofs.Disks.{same_disk}
use Rattle.logged_calls.specs.Calls.{HasLooked, IsReady}

-- ---- the view

pub read_size : (d : DiskState) (v w : Lone) → HasRead d v w → w.size ≡ v.size
read_size d v _ Nothing = refl
read_size d v _ (OneMore now next before one) = ap (λ (x : Lone). x.size) one.kept ∙ read_size d v now before

pub read_groups : (d : DiskState) (v w : Lone) → HasRead d v w → w.groups ≡ v.groups
read_groups d v _ Nothing = refl
read_groups d v _ (OneMore now next before one) = ap (λ (x : Lone). x.groups) one.kept ∙ read_groups d v now before

abbrev IsKeptOn : DiskState → Lone → Type 0
IsKeptOn d v = (b : ℕ) (bytes : List ℕ) → get v.blocks b ≡ Some bytes → b < d.count

one_more_on : (d : DiskState) (v : Lone) (block : ℕ) (new : List ℕ) → block < d.count → IsKeptOn d v → (b : ℕ) (bytes : List ℕ) → get (insert v.blocks block new) b ≡ Some bytes → b < d.count
one_more_on d v block new low on b bytes at = elim (cases_eq block b) [
  | inl same ↦ subst (λ (x : ℕ). x < d.count) same low
  | inr other ↦ on b bytes (sym (inserted_apart nat_cmp_total nat_cmp-IsAntisymmetric v.blocks block new b (λ e. other (sym e))) ∙ at)
]

pub read_on : (d : DiskState) (v w : Lone) → HasRead d v w → IsKeptOn d v → IsKeptOn d w
read_on d v _ Nothing on = on
read_on d v _ (OneMore now next before one) on = λ b bytes at. one_more_on d now one.block one.bytes one.inside (read_on d v now before on) b bytes (sym (ap (λ (x : Lone). get x.blocks b) one.kept) ∙ at)

-- ---- by steps

pub reads_go : (time : ℕ) (d : DiskState) (l : Option (List Operation)) (n : Node) → n.log.flush ≡ None → n.unmounts ≡ false → (v : Lone) → HasRead d n.view v
    → Steps time (point_of d l n) (record (point_of d l n) { view = v })
reads_go time d l n idle mounted _ Nothing = Here
reads_go time d l n idle mounted _ (OneMore now next before one) =
    let p : Point = point_of d l n in
    Then (record p { view = now }) (record p { view = next }) (reads_go time d l n idle mounted now before)
    (subst (λ (v : Lone). Step time (record p { view = now }) (record p { view = v })) (sym one.kept) (Reads (idle, refl, mounted) one.block one.lock one.bytes one.asked one.absent one.whole one.told))

-- ---- the node

module _ (d : DiskState) (l : Option (List Operation)) (n : Node) (v : Lone) (ready : IsReady d n) (read : HasRead d n.view v) where
  abbrev now : Node
  now = record n { view = v }

  on : IsNodeOn d now
  on = let was = ready.resting.on in record {
    sound = was.sound;
    widths = was.widths;
    blocks = was.blocks;
    block = was.block;
    journal = was.journal;
    view = read_size d n.view v read ∙ was.view;
    places = was.places;
    apart = was.apart;
    some = subst (λ gs. 1 ≤ length gs) (sym (read_groups d n.view v read)) was.some;
    groups = subst (AllByRecursion (λ g. end_of g ≤ d.count)) (sym (read_groups d n.view v read)) was.groups;
    kept = read_on d n.view v read was.kept;
    unfenced = was.unfenced;
    flying = was.flying;
    few = was.few;
    awaits = was.awaits;
  }

  pub looked_at : HasLooked d l n d l now
  looked_at = record {
    goes = record { steps = λ time. reads_go time d l n ready.resting.idle ready.mounted v read; disk = same_disk d; armed = refl };
    ready = record { resting = record { on = on; idle = ready.resting.idle; none = ready.resting.none; home = ready.resting.home; small = ready.resting.small }; counted = record { changed = ready.counted.changed; owing = ready.counted.owing }; mounted = ready.mounted };
    read = read;
    node = refl;
    disk = refl;
    list_is = refl;
  }

pub looked : (d e : DiskState) (l k : Option (List Operation)) (n : Node) (v : Lone) → e ≡ d → k ≡ l → IsReady d n → HasRead d n.view v → HasLooked d l n e k (record n { view = v })
looked d e l k n v disk list ready read = subst (λ (x : DiskState). HasLooked d l n x k (record n { view = v })) (sym disk) (subst (λ (x : Option (List Operation)). HasLooked d l n d x (record n { view = v })) (sym list) (looked_at d l n v ready read))
