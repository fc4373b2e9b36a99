use Rattle.std.proofs.Common.{◌++◌, length, sym, ap, subst, ◌∙◌, arith}
use Rattle.std.specs.Prelude.{drop, map}
use Rattle.std.specs.List.{All}
use Rattle.gfs2_layout.specs.Records.{records_in}
use Rattle.image_model.specs.Rules.{HasRecordIn}
use Rattle.image_mount.specs.Found.{first_other}
use Rattle.image_mount.specs.Listing.{said, standing, AreDistinct}
use Rattle.image_mount.specs.Sifting.{AreSifted}
use Rattle.image_mount.specs.declared.listing.Named.{Named}
use Rattle.image_mount.proofs.LeafCauses.{leaf_listed}
use Rattle.image_mount.proofs.Sifts.{kept_all, none_left, sifted_added}
use Rattle.image_mount.proofs.Stops.{refused}
use Rattle.image_mount.proofs.leaves.add_leaf.Goals as goal

pub returns-in_err-records-clause-refused : goal.returns-in_err-records-clause-refused
returns-in_err-records-clause-refused c im a told same others = refused im _ _ c.from_residual.ensures.1 (c.in_err-records.ensures.refused im a told.format told.leaf same)

pub returns-in_err-check_files-clause-refused : goal.returns-in_err-check_files-clause-refused
returns-in_err-check_files-clause-refused c im a told same others =
    refused im _ _ c.from_residual-in_err-check_files.ensures.1
    (c.in_err-check_files.ensures.refused im a c.args.at.now told (ap (map said) c.deref.ensures.value ∙ c.in_ok-records.ensures.found ∙ ap (λ b. records_in (drop 104 b)) (sym same)))

pub returns-in_err-add_records-clause-refused : goal.returns-in_err-add_records-clause-refused
returns-in_err-add_records-clause-refused c im a told same others =
    let items = c.in_ok-records.records.items in
    let sifted = subst (λ xs. AreSifted c.args.names xs (length xs) c.in_ok-sifted.sifted.records.items c.in_ok-sifted.sifted.others) c.deref-2.ensures.value c.in_ok-sifted.ensures.sifted in
    let listed = leaf_listed im a c.args.at.now c.args.bytes.now items told.leaf same c.in_ok-records.ensures.found in
    refused im _ _ c.from_residual-in_err-add_records.ensures.1
    (c.in_err-add_records.ensures.refused im a told.format told.leaf.reached others
    (subst (All (λ (n : Named). HasRecordIn im a c.args.at.now.block (said n))) (sym c.deref-3.ensures.value)
    (kept_all (HasRecordIn im a c.args.at.now.block) c.args.names items c.in_ok-sifted.sifted.records.items c.in_ok-sifted.sifted.others sifted listed))
    (subst (λ xs. AreDistinct (map said xs)) (sym c.deref-3.ensures.value) (sifted.distinct c.in_ok-records.ensures.distinct)))

pub returns-clause-added : goal.returns-clause-added
returns-clause-added c =
    let items = c.in_ok-records.records.items in
    let sifted = subst (λ xs. AreSifted c.args.names xs (length xs) c.in_ok-sifted.sifted.records.items c.in_ok-sifted.sifted.others) c.deref-2.ensures.value c.in_ok-sifted.ensures.sifted in
    sifted_added c.args.names c.args.found.now.items _ items c.in_ok-sifted.sifted.records.items c.args.at.now.block c.in_ok-sifted.sifted.others _ sifted c.in_ok-records.ensures.found c.in_ok-records.ensures.here
    (c.in_ok-add_records.ensures.added ∙ ap (λ xs. map standing c.args.found.now.items ++ map standing xs) c.deref-3.ensures.value)

pub returns-clause-few : goal.returns-clause-few
returns-clause-few c = omega (arith, c.in_ok-sifted.ensures.sifted.few, ap length c.deref-2.ensures.value, c.in_ok-records.ensures.few)

pub returns-clause-plain : goal.returns-clause-plain
returns-clause-plain c files = ap first_other (sym c.in_ok-records.ensures.found ∙ ap (map said) (sym c.deref.ensures.value)) ∙ c.in_ok-check_files.ensures.plain files

pub returns-clause-files : goal.returns-clause-files
returns-clause-files c files =
    none_left c.args.names c.deref-2.result.now c.in_ok-sifted.sifted.records.items c.in_ok-sifted.sifted.others c.in_ok-sifted.ensures.sifted files
    (ap (λ xs. first_other (map said xs)) (c.deref-2.ensures.value ∙ sym c.deref.ensures.value) ∙ c.in_ok-check_files.ensures.plain files)
