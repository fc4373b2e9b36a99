use borrow.Rule.Slice.PartMut.{same_len_mid}
use Rattle.std.proofs.Common.{◌≡◌, ◌∙◌, ◌+◌, ◌-◌, ◌*◌, ◌≤◌, length, drop, replicate, sym, ap, length-drop, arith}
use Rattle.std.proofs.lemmas.List.{drop-drop}
use Rattle.gfs2_layout.specs.Bytes.{u64_at}
use Rattle.gfs2_layout.specs.Structures.{dinode_length}
use Rattle.growth_laws.proofs.Numbers.{number_behind}
use Rattle.linear_dirs.proofs.Looked.{pads_kept, rest_is, rest_put}
use Rattle.hash_steps.specs.Steps.{first_count}
use Rattle.hash_inserts.proofs.converting.write_table.Goals as goal

pub returns : goal.returns
returns c =
    let old = c.args.bytes.now in
    let new = c.write.new.bytes in
    let area = c.write_pointers.new.area in
    let count = first_count (length old) in
    let large : dinode_length ≤ length old = omega (arith, c.requires) in
    let now : drop dinode_length new ≡ area = c.write.ensures.behind ∙ rest_put dinode_length old area large in
    record {
      pads = pads_kept c.args.dinode.now old area new large c.write.ensures.bytes c.write.ensures.read c.write.ensures.behind;
      read = c.write.ensures.read;
      pointers = λ i low. number_behind new dinode_length (8 * i) ∙ ap (u64_at (8 * i)) now ∙ c.write_pointers.ensures.pointers i low;
      clear = sym (drop-drop (8 * count) dinode_length new) ∙ ap (drop (8 * count)) now ∙ c.write_pointers.ensures.clear
          ∙ ap (λ n. replicate (n - 8 * count) 0) (ap length (rest_is dinode_length old) ∙ length-drop dinode_length old) ∙ ap (λ n. replicate n 0) (let e : length old - dinode_length - 8 * count ≡ length old - (dinode_length + 8 * count) = omega arith in e);
      long = c.write.auto.bytes ∙ same_len_mid dinode_length (length old - dinode_length) old area c.write_pointers.auto.area;
    }
