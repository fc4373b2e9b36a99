use Rattle.mkgfs2_tool.proofs.StandingInserted.{inserted}
use Rattle.mkgfs2_tool.proofs.laws.journals_are_inserted.Goals as goal

pub returns : goal.returns
returns c = inserted (record {
  structures = c.structures_read_back.ensures;
  headers = c.headers_read_back.ensures;
  areas = c.areas_join.ensures;
  holdings = c.holdings_are_owned.ensures;
  claims = c.owners_claim_their_blocks.ensures;
  alike = c.journals_read_alike.ensures;
  fits = c.checksums_have_32_bits.ensures;
})
