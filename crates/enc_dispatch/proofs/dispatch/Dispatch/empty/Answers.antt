use Rattle.enc_dispatch.proofs.dispatch.Dispatch.empty.Goals as goal

pub returns : goal.returns
returns c = record {
  classes = c.new.ensures.items;
  methods = c.new-2.ensures.items;
  own = c.new-3.ensures;
  met = c.new-4.ensures;
  impls = c.new-5.ensures;
  interfaces = c.new-6.ensures;
  heads = c.new-7.ensures.none;
  links = c.new-7.ensures.size;
  locals = c.new-8.ensures.items;
}
