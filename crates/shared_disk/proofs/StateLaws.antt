-- The state of a disk after a change of what there is for its nodes, or of its blocks.
use Rattle.std.proofs.Common.{◌≡◌, ℕ, ◌<◌, ◌≤◌, Bool, false, List, [], length, set, get_or, sym, ap, inl, inr, subst, arith}
use Rattle.std.specs.Prelude.{Result}
use Rattle.std.proofs.lemmas.List.{get_or-set_same, get_or-set_other}
use Rattle.std.proofs.lemmas.Bool.Decides.{eqb_tells}
use Rattle.fault_counts.specs.Causes.{raised_once}
use Rattle.shared_disk.specs.Causes.{MayFail}
use Rattle.shared_disk.specs.Disk.{Flight, with_value}
use Rattle.shared_disk.specs.Nodes.{NodeStates, disk_of, flights_of, faults_of, with_flights, with_fence, with_fault}
use Rattle.shared_disk.specs.declared.disk.DiskError.{DiskError}

pub set_at : {A : Type 0} (xs : List A) (node : ℕ) (x d : A) → node < length xs → (k : ℕ) → get_or (set xs node x) k d ≡ with_value (λ i. get_or xs i d) node x k
set_at xs node x d within k =
    elim (eqb_tells k node) [
      | inl here ↦
          let P : ℕ → Type 0 = λ i. get_or (set xs node x) i d ≡ x in
          rw here.0 (subst P (sym here.1) (get_or-set_same xs node x d within))
      | inr there ↦ rw there.0 (get_or-set_other xs node k x d there.1)
    ]

pub disk_with_flights : (tells : Bool) (f : ℕ → List ℕ) (n : NodeStates) (node : ℕ) (fs : List Flight) → node < length n.flights → disk_of tells f (with_flights n node fs) ≡ record (disk_of tells f n) { in_flight = with_value (λ i. flights_of n.flights i) node fs }
disk_with_flights tells f n node fs within =
    ap (λ (p : ℕ → List Flight). record (disk_of tells f n) { in_flight = p }) (λ i. λ k. set_at n.flights node fs [] within k i)

pub disk_with_fence : (tells : Bool) (f : ℕ → List ℕ) (n : NodeStates) (node : ℕ) (b : Bool) → node < length n.fenced → disk_of tells f (with_fence n node b) ≡ record (disk_of tells f n) { is_fenced = with_value (λ i. get_or n.fenced i false) node b }
disk_with_fence tells f n node b within =
    ap (λ (p : ℕ → Bool). record (disk_of tells f n) { is_fenced = p }) (λ i. λ k. set_at n.fenced node b false within k i)

pub disk_with_blocks : (tells : Bool) (f g : ℕ → List ℕ) (n : NodeStates) → ((k : ℕ) → f k ≡ g k) → disk_of tells f n ≡ disk_of tells g n
disk_with_blocks tells f g n same =
    ap (λ (p : ℕ → List ℕ). record (disk_of tells f n) { block_at = p }) (λ i. λ k. same k i)

-- a fault of a call that is counted for a node
pub one_fault : (n : NodeStates) (node : ℕ) (r : Result (Unit {0}) DiskError) → node < length n.faults → faults_of n node ≤ faults_of (with_fault n node) node → MayFail node (faults_of n) (faults_of (with_fault n node)) r
one_fault n node r within later =
    let risen : faults_of (with_fault n node) node ≡ raised_once (faults_of n node) = get_or-set_same n.faults node (raised_once (faults_of n node)) 0 within in
    record {
      later = later;
      others = λ j other. get_or-set_other n.faults node j (raised_once (faults_of n node)) 0 other;
      failed = λ _. omega (arith, risen);
    }
