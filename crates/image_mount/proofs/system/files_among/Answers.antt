use Rattle.std.proofs.Common.{refl}
use Rattle.std.specs.Prelude.{codes}
use Rattle.image_mount.proofs.SystemFiles.{lacks_jindex, lacks_rindex, link_in, plain_names, plain_records}
use Rattle.image_mount.proofs.system.files_among.Goals as goal

pub returns-in_default-clause-refused : goal.returns-in_default-clause-refused
returns-in_default-clause-refused c im format low are same = lacks_rindex im _ c.args.master c.args.records.now format low same are c.damaged.ensures c.in_default.ensures.none

pub returns-in_default-find-clause-refused : goal.returns-in_default-find-clause-refused
returns-in_default-find-clause-refused c im format low are same =
    lacks_jindex im _ c.args.master c.args.records.now format low same are c.damaged-in_default-find.ensures c.in_default-find.ensures.none

pub returns-clause-found : goal.returns-clause-found
returns-clause-found c im are same =
    let items = c.args.records.now in
    let r = c.in-Some.rindex in
    let j = c.in-Some-find.jindex in
    record {
      rindex = link_in im c.args.master items (codes "rindex") r _ same are refl c.in-Some.ensures.named c.in-Some.ensures.there c.link.ensures;
      jindex = link_in im c.args.master items (codes "jindex") j _ same are refl c.in-Some-find.ensures.named c.in-Some-find.ensures.there c.link-2.ensures;
      plain = plain_records im c.args.master items same are;
      others = plain_names im c.args.master items same are;
    }
