-- The headers that a replay of all journals writes.
use Rattle.std.proofs.Common.{◌≡◌, ◌≢◌, ◌⊎◌, inl, inr, ℕ, zero, suc, ◌+◌, ◌≤◌, ◌<◌, List, [], ◌∷◌, length, get_or, Option, None, Some, refl, sym, ap, subst, subst₂, ◌∙◌, arith}
use Rattle.std.specs.Prelude.{IfSome, IsTrue, slice_get, replicate}
use Rattle.std.proofs.lemmas.Bool.{cases_eq}
use Rattle.std.proofs.lemmas.List.{length-replicate}
use Rattle.disk_turns.specs.Turns.{Moment}
use Rattle.image_mount.specs.Mounted.{Journal}
use Rattle.journal_replays.specs.Headers.{clean_block, filled}
use Rattle.journal_replays.specs.Replays.{IsReplayWith}
use Rattle.log_layout.specs.Laws.{HeadersReadBack}
use Rattle.log_layout.specs.declared.log_header.LogHeader.{LogHeader}
use Rattle.peer_replay.specs.declared.planned.Plan.{Plan}
use Rattle.trace_text.specs.declared.item.TraceItem.{TraceItem}
use Rattle.image_recovery.specs.Ended.{AreApart, IsNoHeader}
use Rattle.image_recovery.specs.Recoveries.{AreReplays}
use Rattle.image_recovery.proofs.Ending.{HaveOwnPlaces, apart_rest, leaves_place, size_one, some_is, stays_all, tells_one, there_one}

-- ---- a block is that of a header, or it is not

-- the block is that of the header which this journal's replay writes
pub record IsHeaderIn (js : List Journal) (ps : List Plan) (b : ℕ) : Type 0 where
  pub index : ℕ
  pub journal : Journal
  pub plan : Plan
  pub header : LogHeader
  pub at_journal : slice_get js index ≡ Some journal
  pub at_plan : slice_get ps index ≡ Some plan
  pub is : plan.clean ≡ Some header
  pub block : get_or journal.blocks header.blkno 0 ≡ b

none_some : {A : Type 0} {x : A} → ◌≡◌ {A = Option A} None (Some x) → ⊥
none_some e = cc

of_one : (blocks : List ℕ) (c : Option LogHeader) (b : ℕ) → ((h : LogHeader) × (c ≡ Some h) × (get_or blocks h.blkno 0 ≡ b)) ⊎ ((h : LogHeader) → c ≡ Some h → get_or blocks h.blkno 0 ≢ b)
of_one blocks None b = inr (λ h is. absurd (none_some is))
of_one blocks (Some g) b = elim (cases_eq (get_or blocks g.blkno 0) b) [
  | inl same ↦ inl (g, refl, same)
  | inr off ↦ inr (λ h is same. off (ap (λ (x : LogHeader). get_or blocks x.blkno 0) (some_is is) ∙ same))
]

pub header_or_not : (js : List Journal) (ps : List Plan) (b : ℕ) → IsHeaderIn js ps b ⊎ IsNoHeader b js ps
header_or_not [] ps b = inr (λ i j p h at_j at_p is. absurd (none_some at_j))
header_or_not (j ∷ js) [] b = inr (λ i k p h at_k at_p is. absurd (none_some at_p))
header_or_not (j ∷ js) (p ∷ ps) b = elim (of_one j.blocks p.clean b) [
  | inl is ↦ inl (record { index = 0; journal = j; plan = p; header = is.0; at_journal = refl; at_plan = refl; is = is.1; block = is.2 })
  | inr off ↦ elim (header_or_not js ps b) [
    | inl it ↦ inl (record { index = suc it.index; journal = it.journal; plan = it.plan; header = it.header; at_journal = it.at_journal; at_plan = it.at_plan; is = it.is; block = it.block })
    | inr none ↦ inr (each off none)
  ]
]
  where
    each : ((h : LogHeader) → p.clean ≡ Some h → get_or j.blocks h.blkno 0 ≢ b) → IsNoHeader b js ps → IsNoHeader b (j ∷ js) (p ∷ ps)
    each off none zero k q h at_k at_q is =
        let plan_is : p ≡ q = some_is at_q in
        let journal_is : j ≡ k = some_is at_k in
        λ same. off h (ap (λ (x : Plan). x.clean) plan_is ∙ is) (ap (λ (x : Journal). get_or x.blocks h.blkno 0) journal_is ∙ same)
    each off none (suc i) k q h at_k at_q is = none i k q h at_k at_q is

-- ---- what it holds then

pub places_one : (blocks : List ℕ) (c : Option LogHeader) (h : LogHeader) → c ≡ Some h → IfSome c (λ (g : LogHeader). g.blkno < length blocks) → h.blkno < length blocks
places_one blocks c h is inside = subst (λ (o : Option LogHeader). IfSome o (λ (g : LogHeader). g.blkno < length blocks)) is inside

module _ (node time : ℕ) where
  pub header_all : (slot : ℕ) (before after : Moment) (js : List Journal) (ps : List Plan) (items : List TraceItem) → IsTrue before.disk.tells → HaveOwnPlaces js ps → AreApart js ps
      → AreReplays node slot time before js ps after items → (i : ℕ) (j : Journal) (p : Plan) (h : LogHeader) → slice_get js i ≡ Some j → slice_get ps i ≡ Some p → p.clean ≡ Some h
      → after.disk.block_at (get_or j.blocks h.blkno 0) ≡ (clean_block before.disk.size (get_or j.blocks h.blkno 0) (slot + i) j.dinode time h).bytes
  header_all slot before after [] ps items tells places apart so i j p h at_j at_p is = absurd (none_some at_j)
  header_all slot before after (k ∷ js) [] items tells places apart so i j p h at_j at_p is = absurd (none_some at_p)
  header_all slot before after (k ∷ js) (q ∷ ps) items tells places apart (mid, first, later, are, one, rest) zero j p h at_j at_p is =
      subst₂ (λ (n : ℕ) (x : Journal). after.disk.block_at (get_or x.blocks h.blkno 0) ≡ (clean_block before.disk.size (get_or x.blocks h.blkno 0) n x.dinode time h).bytes) (let same : slot ≡ slot + 0 = omega arith in same) (some_is at_j)
      (stays_all node (slot + 1) time mid after js ps later (get_or k.blocks h.blkno 0) tells'
      (λ n l r at_l at_r. leaves_place (k ∷ js) (q ∷ ps) apart places 0 (suc n) h.blkno k l r (λ same. omega (arith, same)) refl at_l at_r inside) rest
      ∙ there_one node slot k.dinode k.blocks time before mid q.home.items h first tells (subst (λ (o : Option LogHeader). IsReplayWith node slot k.dinode k.blocks time before mid q.home.items o first) own one))
    where
      own : q.clean ≡ Some h
      own = ap (λ (x : Plan). x.clean) (some_is at_p) ∙ is

      inside : h.blkno < length k.blocks
      inside = places_one k.blocks q.clean h own (places 0 k q refl refl)

      tells' : IsTrue mid.disk.tells
      tells' = subst IsTrue (sym (tells_one node slot k.dinode k.blocks time before mid q.home.items q.clean first one)) tells
  header_all slot before after (k ∷ js) (q ∷ ps) items tells places apart (mid, first, later, are, one, rest) (suc i) j p h at_j at_p is =
      header_all (slot + 1) mid after js ps later (subst IsTrue (sym (tells_one node slot k.dinode k.blocks time before mid q.home.items q.clean first one)) tells)
      (λ n. places (suc n)) (apart_rest k js q ps apart) rest i j p h at_j at_p is
      ∙ ap (λ n. (clean_block mid.disk.size (get_or j.blocks h.blkno 0) n j.dinode time h).bytes) (let same : (slot + 1) + i ≡ slot + suc i = omega arith in same)
      ∙ ap (λ n. (clean_block n (get_or j.blocks h.blkno 0) (slot + suc i) j.dinode time h).bytes) (size_one node slot k.dinode k.blocks time before mid q.home.items q.clean first one)

-- it is a whole block
pub header_long : HeadersReadBack → (size block slot dinode time : ℕ) (h : LogHeader) → 120 ≤ size → length (clean_block size block slot dinode time h).bytes ≡ size
header_long back size block slot dinode time h large =
    back.as_long (filled block slot dinode time h) (replicate size 0) (let long = length-replicate {A = ℕ} size 0 in omega (arith, long, large)) ∙ length-replicate {A = ℕ} size 0
