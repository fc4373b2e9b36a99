use Rattle.gfs2_layout.proofs.dinode.Dinode.fields.Goals as goal

pub returns : goal.returns
returns c = λ i. record {
  num = c.at.ensures i;
  mode = c.u32_at.ensures i;
  uid = c.u32_at-2.ensures i;
  gid = c.u32_at-3.ensures i;
  nlink = c.u32_at-4.ensures i;
  size = c.u64_at.ensures i;
  blocks = c.u64_at-2.ensures i;
  atime = c.u64_at-3.ensures i;
  mtime = c.u64_at-4.ensures i;
  ctime = c.u64_at-5.ensures i;
  major = c.u32_at-5.ensures i;
  minor = c.u32_at-6.ensures i;
  goal_meta = c.u64_at-6.ensures i;
  goal_data = c.u64_at-7.ensures i;
  generation = c.u64_at-8.ensures i;
  flags = c.u32_at-7.ensures i;
  payload_format = c.u32_at-8.ensures i;
  height = c.u16_at.ensures i;
  depth = c.u16_at-2.ensures i;
  entries = c.u32_at-9.ensures i;
  eattr = c.u64_at-9.ensures i;
  atime_nsec = c.u32_at-10.ensures i;
  mtime_nsec = c.u32_at-11.ensures i;
  ctime_nsec = c.u32_at-12.ensures i;
}
