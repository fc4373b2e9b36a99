-- A new image stands, and is in the profile.
use Rattle.std.proofs.Common.{List, ℕ, suc, ◌≡◌, ◌+◌, ◌^◌, ◌<◌, ◌≤◌, length, Some, refl, sym, ap, ◌∙◌, subst, arith}
use Rattle.std.proofs.lemmas.List.FromFn.{length-map-range_with_len}
use Rattle.log_layout.specs.declared.log_header.LogHeader.{LogHeader}
use Rattle.gfs2_layout.specs.declared.superblock.SuperBlock.{SuperBlock}
use Rattle.gfs2_layout.specs.Inode.{content_block}
use Rattle.log_layout.specs.Headers.{as_read}
use Rattle.log_layout.specs.Journal.{ring_of, head_in}
use Rattle.image_model.specs.Laws.{ReadsAlike}
use Rattle.image_model.specs.Claims.{every, LeadsTo}
use Rattle.image_model.specs.Image.{Image, Blocks}
use Rattle.image_model.specs.Journals.{journal_name}
use Rattle.image_model.specs.Profile.{HasPlainMaster, HasJournals, IsInProfile}
use Rattle.image_model.specs.Stands.{IsSuper, IsLaid}
use Rattle.mkgfs2_tool.proofs.StandingLists.{some_same}
use Rattle.mkgfs2_tool.specs.Groups.{super_block, group_address, group_blocks, data_address}
use Rattle.mkgfs2_tool.specs.Order.{master_place, journals_place, journal_place}
use Rattle.mkgfs2_tool.specs.Blocks.{group_entry, clean_header, clean_block, first_content}
use Rattle.mkgfs2_tool.specs.Making.{IsFitting}
use Rattle.mkgfs2_tool.specs.Standing.{IsStamped, IsNewImage, new_layout, new_head, HasCleanHeads, StandsEmpty}
use Rattle.mkgfs2_tool.specs.declared.plan.Plan.{Plan}
use Rattle.mkgfs2_tool.proofs.StandingJindex.{jindex_is}
use Rattle.mkgfs2_tool.proofs.StandingGiven.{Given, Known}
use Rattle.mkgfs2_tool.proofs.StandingGround.{group_ends}
use Rattle.mkgfs2_tool.proofs.StandingPlan.{ground, ground_is}
use Rattle.mkgfs2_tool.proofs.StandingOwners.{owner, spot, owner_master, owner_root}
use Rattle.mkgfs2_tool.proofs.StandingInodes.{held, image, AreMade, file_own}
use Rattle.mkgfs2_tool.proofs.StandingRings.{places_are, first_block, first_bytes, dinode_block_is, read_sequence, ring_head, new_journal}
use Rattle.mkgfs2_tool.proofs.StandingSystem.{inodes, directories, within, names, found, system, short, reads, root_is, master_only, journal_at, jindex_others}
use Rattle.image_model.specs.Owners.{Named, up_of}
use Rattle.image_model.specs.Stands.{flat_of}
use Rattle.mkgfs2_tool.proofs.StandingWhose.{owner_top}
use Rattle.mkgfs2_tool.proofs.StandingWhole.{shift_is, IsSuperBlock, super_is, new_whole}
use Rattle.mkgfs2_tool.proofs.StandingZones.{groups_fit, zoned}
use Rattle.mkgfs2_tool.proofs.StandingGroups.{groups_are}
use Rattle.mkgfs2_tool.proofs.StandingHeaders.{few_group_blocks}

module _ (p : Plan) (fit : IsFitting p) (known : Known p) (at : Blocks) (made : AreMade p at) where
  super_low : super_block p < p.count
  super_low = through (super_block p) (group_address p 0) (group_blocks p 0) p.count (omega arith) (group_ends (ground p) (ground_is p fit) 0 (omega arith))
    where
      through : (s a b c : ℕ) → s < a → a + b ≤ c → s < c
      through s a b c less ends = omega (arith, less, ends)

  super_block_is : IsSuperBlock p fit known (at (super_block p))
  super_block_is = subst (IsSuperBlock p fit known) (sym (made.is (super_block p) super_low)) (super_is p fit known)

  super : IsSuper (image p at) (new_layout p)
  super = record {
    inside = super_low;
    header = super_block_is.header;
    root = ap (λ (s : SuperBlock). s.root.address) super_block_is.is;
    master = ap (λ (s : SuperBlock). s.master.address) super_block_is.is;
  }

  pub laid : IsLaid (image p at) (owner p) (new_layout p)
  laid = record {
    image = record { block_size = fit.plan.size; whole = made.whole };
    super = super;
    fit = groups_fit p fit known at;
    zoned = zoned p fit known at;
    groups = groups_are p fit known at made;
    root = (owner_root p fit, root_is p fit known at made);
    master = owner_master p fit;
    inodes = inodes p fit known at made;
    directories = directories p fit known at made;
    within = within p fit known at made;
    names = names p fit known at made;
    found = found p fit known at made;
    system = system p fit known at made;
    short = short p fit known at made;
  }

  -- ---- the journals, block after block

  alike : (j : ℕ) (ok : suc j ≤ p.journals) → ReadsAlike (image p at) (owner p) (spot p (suc j) 0)
  alike j ok = known.given.alike (image p at) (owner p) (new_layout p) laid (spot p (suc j) 0) (file_own p fit known at made (suc j) ok) (new_journal p fit known at made j ok)

  journal_places : (j : ℕ) (ok : suc j ≤ p.journals) → (ring_of (every (image p at) (spot p (suc j) 0))).places ≡ p.journal_blocks
  journal_places j ok = sym (alike j ok).places ∙ places_are p fit known at made j ok

  -- the first block of its content, block after block
  journal_first : (j : ℕ) (ok : suc j ≤ p.journals) → content_block (held p at (spot p (suc j) 0)) 0 ≡ content_block (every (image p at) (spot p (suc j) 0)) 0
  journal_first j ok = (alike j ok).blocks 0 (subst (λ n. 0 < n) (sym (places_are p fit known at made j ok)) (some_blocks p.journal_blocks fit.plan.some_journal_blocks))
    where
      some_blocks : (n : ℕ) → 512 ≤ n → 0 < n
      some_blocks n some = omega (arith, some)

  journal_head : (j : ℕ) (ok : suc j ≤ p.journals) → head_in (ring_of (every (image p at) (spot p (suc j) 0))) ≡ Some (new_head p (image p at) j (spot p (suc j) 0))
  journal_head j ok = sym (alike j ok).says.head ∙ ring_head p fit known at made j ok ∙ (λ i. Some (as_read (clean_header p.time j (block i) (dinode i)) (bytes i)))
    where
      block : data_address p (first_content p j) ≡ content_block (every (image p at) (spot p (suc j) 0)) 0
      block = sym (first_block p fit known at made j ok) ∙ journal_first j ok

      dinode : data_address p (journal_place p j) ≡ spot p (suc j) 0
      dinode = sym (dinode_block_is p fit known at made j ok)

      bytes : clean_block p j ≡ at (content_block (every (image p at) (spot p (suc j) 0)) 0)
      bytes = sym (first_bytes p fit known at made j ok) ∙ ap at (journal_first j ok)

  pub heads : HasCleanHeads p (image p at) (new_layout p)
  heads j d e = let at_j = journal_at p fit known at made j d e in subst (λ n. head_in (ring_of (every (image p at) n)) ≡ Some (new_head p (image p at) j n)) (sym at_j.1) (journal_head j at_j.0)

  -- ---- the profile

  -- a name leads where the owner says
  leads_owner : (a : ℕ) (name : List ℕ) (b : ℕ) → LeadsTo (image p at) a name b → owner p b ≡ Named a name
  leads_owner a name b way = ((known.given.claims (image p at) (owner p) (new_layout p) laid b (Named a name)).0 way).0

  leads_child : (a : ℕ) (name : List ℕ) (b : ℕ) → LeadsTo (image p at) a name b → (flat_of (image p at) (owner p) a).child name ≡ Some b
  leads_child a name b way = laid.names b (record { parent = a; name = name }) (ap up_of (leads_owner a name b way))

  journal_leads : (j : ℕ) → suc j ≤ p.journals → LeadsTo (image p at) (data_address p (journals_place p)) (journal_name j) (spot p (suc j) 0)
  journal_leads j ok = (known.given.claims (image p at) (owner p) (new_layout p) laid (spot p (suc j) 0) (Named (data_address p (journals_place p)) (journal_name j))).1 (owner_top p fit known (suc j) ok, tt)

  plain_master : HasPlainMaster (image p at) (new_layout p)
  plain_master name d way = master_only p fit known at made name d (leads_child (data_address p master_place) name d way)

  has_journals : HasJournals (image p at) (new_layout p)
  has_journals = record {
    some = subst (λ n. 1 ≤ n) (sym length_is) fit.plan.some_journals;
    few = subst (λ n. n ≤ 8) (sym length_is) fit.plan.journals;
    there = λ j d e. let at_j = journal_at p fit known at made j d e in subst (LeadsTo (image p at) (data_address p (journals_place p)) (journal_name j)) (sym at_j.1) (journal_leads j at_j.0);
    others = λ name d way. jindex_others p fit known at made name d (leads_child (data_address p (journals_place p)) name d way);
  }
    where
      length_is : length (new_layout p).journals ≡ p.journals
      length_is = length-map-range_with_len (λ j. data_address p (journal_place p j)) 0 p.journals

  pub profile : IsInProfile (image p at) (new_layout p)
  profile = record {
    fs_format = ap (λ (s : SuperBlock). s.fs_format) super_block_is.is;
    multihost_format = ap (λ (s : SuperBlock). s.multihost_format) super_block_is.is;
    bsize = ap (λ (s : SuperBlock). s.bsize) super_block_is.is;
    bsize_shift = ap (λ (s : SuperBlock). 2 ^ s.bsize_shift) super_block_is.is ∙ shift_is p.size fit.plan.size;
    master = plain_master;
    device = fit.count;
    journals = has_journals;
    journal = λ j d e. let at_j = journal_at p fit known at made j d e in
        subst (λ n. (512 ≤ (ring_of (every (image p at) n)).places) × ((ring_of (every (image p at) n)).places ≤ 65536)) (sym at_j.1)
        (subst (λ n. (512 ≤ n) × (n ≤ 65536)) (sym (journal_places j at_j.0)) (fit.plan.some_journal_blocks, fit.plan.journal_blocks));
    groups = subst (λ n. (1 ≤ n) × (n ≤ 64)) (sym (length-map-range_with_len (group_entry p) 0 p.groups)) (fit.plan.some_groups, fit.plan.groups);
    group_blocks = few_group_blocks p fit;
    sequence = λ j d head e f. one j d head (some_same (sym f ∙ heads j d e));
  }
    where
      one : (j d : ℕ) (head : LogHeader) → head ≡ new_head p (image p at) j d → head.sequence < 2 ^ 63
      one j d head e = subst (λ n. n < 2 ^ 63) (sym (ap (λ (h : LogHeader). h.sequence) e ∙ read_sequence (clean_header p.time j (content_block (every (image p at) d) 0) d) (at (content_block (every (image p at) d) 0)))) (omega arith)

  pub stands_empty : StandsEmpty p (image p at)
  stands_empty = record {
    stands = record { owners = owner p; layout = new_layout p; laid = laid; reads = reads p fit known at made };
    found = refl;
    heads = heads;
    form = (jindex_is p fit known at made).form;
    profile = profile;
  }

-- any image that is made of a plan
pub new_stands : Given → (p : Plan) (im : Image) → IsFitting p → IsStamped p → IsNewImage p im → StandsEmpty p im
new_stands given p im fit stamped is =
    let known : Known p = record { uuid = stamped.uuid; time = stamped.time; given = given } in
    subst (StandsEmpty p) (λ t. record { size = sym is.size t; count = sym is.count t; at = im.at })
    (stands_empty p fit known im.at (record { is = is.blocks; whole = λ b low. ap length (is.blocks b low) ∙ new_whole p fit known b low }))
