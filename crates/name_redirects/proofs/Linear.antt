-- A linear directory in whose block a name's record was led elsewhere.
use Rattle.std.proofs.Common.{◌≡◌, ◌≢◌, ℕ, ◌≤◌, true, false, List, [], ◌∷◌, length, drop, Option, None, Some, Ok, refl, sym, ap, ◌∙◌, subst, subst₂, arith}
use Rattle.std.specs.Prelude.{◌&&◌, IsSome}
use Rattle.std.specs.FinMap.{insert}
use Rattle.std.proofs.lemmas.Bool.{true≢false}
use Rattle.std.proofs.lemmas.Bool.Decides.{nat_tests}
use Rattle.drafts.specs.Fates.{Drafted, seen_in}
use Rattle.drafts.specs.declared.fate.Fate.TheVariants.{Put}
use Rattle.gfs2_layout.specs.Headers.{HasHeader}
use Rattle.gfs2_layout.specs.Exchanges.{IsExchanged}
use Rattle.gfs2_layout.specs.Holding.{Cell, Holding, Part, bytes_at, cell_part, part_at}
use Rattle.gfs2_layout.specs.Inode.{Head, IsInode, dinode_in, has_hash_flag, is_directory_in, is_hashed_in, linear_area, records_of}
use Rattle.gfs2_layout.specs.Records.{IsRecordArea, Record, record_of, records_in}
use Rattle.gfs2_layout.specs.Structures.{answer, dinode_length, dinode_of, dinode_read, header_fault, is_directory}
use Rattle.gfs2_layout.specs.declared.dinode.Dinode.{Dinode}
use Rattle.gfs2_layout.specs.declared.inum.Inum.{Inum}
use Rattle.glock_names.specs.Views.{Seen}
use Rattle.dinode_tree.specs.Reading.{inode_lock}
use Rattle.dinode_tree.specs.Shown.{IsShown}
use Rattle.linear_dirs.specs.Exchanges.{HasExchanged}
use Rattle.linear_dirs.specs.Shown.{holding_over}
use Rattle.linear_dirs.proofs.Looked.{bytes_of}
use Rattle.linear_dirs.proofs.Rewritten.{IsRewritten, area_new, dinode_new, exchanged as rewritten_exchanges, rewritten}
use Rattle.name_redirects.specs.Leading.{record_led_to}
use Rattle.name_redirects.specs.Redirects.{IsNameLed}
use Rattle.name_redirects.proofs.Blocks.{area_again, counted_still, dinode_front, exchanged, header_front, same_front, same_length, slot}

-- a block with the header of a dinode is read as one
pub reads_well : (bytes : List ℕ) → dinode_length ≤ length bytes → HasHeader 4 400 bytes → dinode_read bytes ≡ Ok (dinode_of bytes)
reads_well bytes large header = ap (λ o. answer o (dinode_of bytes)) (no_fault bytes large header)
  where
    no_fault : (b : List ℕ) → dinode_length ≤ length b → HasHeader 4 400 b → header_fault dinode_length 4 400 b ≡ None
    no_fault b long h = grind (arith, nat_tests, h.magic_is, h.kind_is, h.format_is)

has_part : (c : Option Cell) → IsSome c → (p : Part) × (cell_part c ≡ Some p)
has_part None none = absurd (true≢false (sym none))
has_part (Some c) some = (c.part, refl)

module _ {V : Type 0} (seen : V → Seen) (before after : Drafted V) (dir : ℕ) (h : Holding) (old new name : List ℕ) (inum : Inum) (shown : IsShown (seen_in seen before) dir h)
    (directory : is_directory_in h ≡ true) (linear : is_hashed_in h ≡ false) (there : (seen_in seen before).block_at dir ≡ Some old) (large : dinode_length ≤ length old) (led : IsNameLed dinode_length old new name inum)
    (put : after ≡ record before { fates = insert before.fates dir (Put (inode_lock dir) false new) }) (some : inum.number ≢ 0) (some' : inum.address ≢ 0) where
  abbrev w : Seen
  w = seen_in seen after

  abbrev anew : Holding
  anew = holding_over w h

  is : IsRewritten w h new
  is = rewritten seen before after dir h (inode_lock dir) new shown put

  was : bytes_at h h.own ≡ old
  was = bytes_of (seen_in seen before) h dir old shown there

  same_dinode : dinode_of new ≡ dinode_of old
  same_dinode = dinode_front new old (same_front dinode_length old new name inum large led)

  own_dinode : dinode_of old ≡ dinode_in h
  unfolding dinode_in
  own_dinode = ap dinode_of (sym was)

  dinode_still : dinode_in anew ≡ dinode_in h
  dinode_still = dinode_new w h new is (dinode_in h) (same_dinode ∙ own_dinode)

  area_was : linear_area h ≡ drop dinode_length old
  area_was = ap (drop dinode_length) was

  -- before, its records are those behind the dinode, and so they are afterwards
  plain : (k : Holding) → is_hashed_in k ≡ false → records_of k ≡ records_in (linear_area k)
  unfolding records_of
  plain k unhashed = rw unhashed refl

  linear_still : is_hashed_in anew ≡ false
  linear_still = ap (λ (d : Dinode). is_directory d && has_hash_flag d) dinode_still ∙ linear

  abbrev moved : Record
  moved = record_of (slot dinode_length old new name inum large led)

  itself : (p : Part) × (part_at h h.own ≡ Some p)
  itself = has_part (h.cell h.own) shown.dinode

  -- where the inode is sound the block is one as `linear_dirs` writes it
  all_over : IsInode h → HasExchanged h anew (moved ∷ []) (record_led_to inum moved ∷ [])
  all_over sound =
      let own = sound.linear directory linear in
      let header : HasHeader 4 400 new = header_front dinode_length 4 400 new old (omega arith) (same_front dinode_length old new name inum large led) (subst (HasHeader 4 400) was sound.header) in
      let lengths = same_length dinode_length old new name inum large led in
      let whole : length old ≡ h.size = ap length (sym was) ∙ sound.whole h.own itself.0 itself.1 in
      rewritten_exchanges w h (dinode_in h) (linear_area h) new (dinode_in h)
      (record {
        right = record { header = sound.header; address = sound.address; number = sound.number; mode = sound.mode; fits = sound.fits };
        dinode = refl;
        records = refl;
        directory = directory;
        linear = linear;
        stuffed = own.stuffed;
        size = own.size;
      }) is (record { long = lengths ∙ whole; read = reads_well new (omega (arith, lengths, large)) header ∙ ap Ok (same_dinode ∙ own_dinode); kept = refl; filled = led.filled }) (moved ∷ []) (record_led_to inum moved ∷ [])
      (λ area. area_again dinode_length old new name inum large led some some' (subst IsRecordArea area_was area))
      (subst (λ a. IsExchanged (records_in a) (records_in (drop dinode_length new)) (moved ∷ []) (record_led_to inum moved ∷ [])) (sym area_was) (exchanged dinode_length old new name inum large led some some'))
      (counted_still (dinode_in h) (dinode_in h) inum moved refl)

  pub linear_exchanged : HasExchanged h anew (moved ∷ []) (record_led_to inum moved ∷ [])
  linear_exchanged = record {
    sound = λ sound. (all_over sound).sound sound;
    head = ap (λ (d : Dinode). let head : Head = record { number = d.num.number; is_dir = is_directory d } in head) dinode_still;
    records = subst₂ (λ a b. IsExchanged a b (moved ∷ []) (record_led_to inum moved ∷ [])) (sym (plain h linear ∙ ap records_in area_was)) (sym (plain anew linear_still ∙ ap records_in (area_new w h new is)))
        (exchanged dinode_length old new name inum large led some some');
    counted = counted_still (dinode_in h) (dinode_in anew) inum moved dinode_still;
  }
