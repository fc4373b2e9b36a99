-- What a replay puts home is what is live, and its items tell how much that is.
use Rattle.std.proofs.Common.{◌≡◌, ℕ, zero, suc, ◌+◌, ◌<◌, List, [], ◌∷◌, ◌++◌, length, map, Option, None, Some, inl, inr, get_or, refl, sym, ap, subst, ◌∙◌, arith}
use Rattle.std.specs.Prelude.{◌==◌, Contains, count_by, find, if◌then◌else◌}
use Rattle.std.specs.Option.{option_map}
use Rattle.std.proofs.lemmas.Bool.{cases_eq, cond-false, cond-true, eq-eqb, ne_eqb}
use Rattle.std.proofs.lemmas.List.{length-append, length-map}
use Rattle.std.proofs.lemmas.List.Sums.{sum_by-append}
use Rattle.drafts.specs.declared.change.Written.{Written}
use Rattle.disk_turns.specs.Turns.{AreBrought, Moment, none, turn, turn_of, writes_of}
use Rattle.journal_replays.specs.Items.{item_of, items_of}
use Rattle.journal_replays.specs.Replays.{IsReplayWith}
use Rattle.journal_scan.specs.Said.{logged}
use Rattle.log_layout.specs.Chunks.{Logged}
use Rattle.log_layout.specs.declared.log_header.LogHeader.{LogHeader}
use Rattle.shared_disk.specs.Disk.{Barrier, Operation}
use Rattle.trace_text.specs.declared.item.TraceItem.{TraceItem}
use Rattle.trace_text.specs.declared.item.TraceItem.TheVariants as trace
use Rattle.image_recovery.specs.Counts.{PlansPutWhatIsLive, ReplaysTellTheirCount, is_replay_write}

-- ---- what goes home

abbrev put_of : List Written → ℕ → Option (List ℕ)
put_of ws b = option_map (λ (e : Logged). e.bytes) (option_map logged (find (λ (w : Written). w.block == b) ws))

abbrev numbers : List Written → List ℕ
numbers ws = map (λ (w : Written). w.block) ws

none_some : {A : Type 0} {x : A} → ◌≡◌ {A = Option A} None (Some x) → ⊥
none_some e = cc

-- a block to which bytes go is among them
put_there : (ws : List Written) (b : ℕ) (bytes : List ℕ) → put_of ws b ≡ Some bytes → Contains (numbers ws) b
put_there [] b bytes put = absurd (none_some put)
put_there (w ∷ ws) b bytes put = elim (cases_eq w.block b) [
  | inl same ↦ (0, omega arith, same)
  | inr off ↦
      let rest = put_there ws b bytes (sym (ap (λ o. option_map (λ (e : Logged). e.bytes) (option_map logged o)) (cond-false (w.block == b) (Some w) (find (λ (v : Written). v.block == b) ws) (ne_eqb w.block b off))) ∙ put) in
      (suc rest.0, let low = rest.1 in omega (arith, low), rest.2)
]

-- and bytes go to each that is
there_put : (ws : List Written) (b i : ℕ) → i < length (numbers ws) → get_or (numbers ws) i b ≡ b → (bytes : List ℕ) × (put_of ws b ≡ Some bytes)
there_put [] b i low same = absurd (omega (arith, low))
there_put (w ∷ ws) b zero low same = (w.bytes, ap (λ o. option_map (λ (e : Logged). e.bytes) (option_map logged o)) (cond-true (w.block == b) (Some w) (find (λ (v : Written). v.block == b) ws) (eq-eqb w.block b same)))
there_put (w ∷ ws) b (suc i) low same = elim (cases_eq w.block b) [
  | inl here ↦ (w.bytes, ap (λ o. option_map (λ (e : Logged). e.bytes) (option_map logged o)) (cond-true (w.block == b) (Some w) (find (λ (v : Written). v.block == b) ws) (eq-eqb w.block b here)))
  | inr off ↦
      let rest = there_put ws b i (omega (arith, low)) same in
      (rest.0, ap (λ o. option_map (λ (e : Logged). e.bytes) (option_map logged o)) (cond-false (w.block == b) (Some w) (find (λ (v : Written). v.block == b) ws) (ne_eqb w.block b off)) ∙ rest.1)
]

pub put_live : PlansPutWhatIsLive
put_live d ring p writable of = record {
  rise = writable.rise;
  are = λ b. (
    λ has. let put = there_put p.home.items b has.0 has.1 has.2 in (put.0, sym (of.live b) ∙ put.1),
    λ live. put_there p.home.items b live.0 (of.live b ∙ live.1),
  );
}

-- ---- the items

abbrev writes_in : List TraceItem → ℕ
writes_in items = count_by is_replay_write items

writes_append : (xs ys : List TraceItem) → writes_in (xs ++ ys) ≡ writes_in xs + writes_in ys
writes_append = sum_by-append (λ item. if is_replay_write item then 1 else 0)

operations_append : (xs ys : List Operation) → items_of (xs ++ ys) ≡ items_of xs ++ items_of ys
operations_append [] ys = refl
operations_append (x ∷ xs) ys = ap (λ (zs : List TraceItem). item_of x ∷ zs) (operations_append xs ys)

of_writes : (node : ℕ) (ws : List Written) → writes_in (items_of (writes_of node ws)) ≡ length ws
of_writes node [] = refl
of_writes node (w ∷ ws) =
    let one : writes_in (trace.WriteReplay node w.block ∷ []) ≡ 1 = refl in
    let rest = of_writes node ws in
    writes_append (trace.WriteReplay node w.block ∷ []) (items_of (writes_of node ws)) ∙ omega (arith, one, rest)

of_turn : (node : ℕ) (ws : List Written) → writes_in (items_of (turn_of node ws)) ≡ length ws
of_turn node ws =
    let barrier : writes_in (items_of (Barrier node ∷ [])) ≡ 0 = refl in
    let own = of_writes node ws in
    ap writes_in (operations_append (writes_of node ws) (Barrier node ∷ [])) ∙ writes_append (items_of (writes_of node ws)) (items_of (Barrier node ∷ [])) ∙ omega (arith, barrier, own)

-- each block that is brought to the disk is told once
of_brought : (node : ℕ) (ws : List Written) (operations : List Operation) → AreBrought node ws operations → writes_in (items_of operations) ≡ length ws
of_brought node _ _ none = refl
of_brought node _ _ (turn some later operations is rest) =
    let first = of_turn node some in
    let others = of_brought node later operations rest in
    let long = length-append some later in
    ap writes_in (operations_append (turn_of node some) operations) ∙ writes_append (items_of (turn_of node some)) (items_of operations) ∙ omega (arith, first, others, long)

tell_count : (node slot dinode : ℕ) (blocks : List ℕ) (time : ℕ) (before after : Moment) (home : List Written) (header : LogHeader) (items : List TraceItem)
    → IsReplayWith node slot dinode blocks time before after home (Some header) items → writes_in items ≡ length home + 1
tell_count node slot dinode blocks time before after home header items is =
    let homes = of_brought node home is.homes.operations is.homes.brought in
    let head = of_brought node _ is.headed.operations is.headed.brought in
    let last : writes_in (trace.Recovered slot node ∷ []) ≡ 0 = refl in
    let one : writes_in (items_of is.headed.operations ++ trace.Recovered slot node ∷ []) ≡ writes_in (items_of is.headed.operations) + writes_in (trace.Recovered slot node ∷ [])
    = writes_append (items_of is.headed.operations) (trace.Recovered slot node ∷ []) in
    ap writes_in is.told ∙ writes_append (items_of is.homes.operations) (items_of is.headed.operations ++ trace.Recovered slot node ∷ []) ∙ omega (arith, homes, head, last, one)

pub replays_tell : ReplaysTellTheirCount
replays_tell node slot dinode blocks time before after p header items is replay =
    tell_count node slot dinode blocks time before after p.home.items header items (subst (λ (c : Option LogHeader). IsReplayWith node slot dinode blocks time before after p.home.items c items) is replay)
    ∙ ap (λ n. n + 1) (sym (length-map p.home.items (λ (w : Written). w.block)))
