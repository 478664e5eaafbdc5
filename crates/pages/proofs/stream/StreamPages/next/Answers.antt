use Rattle.std.proofs.Common.{◌<◌, length, rules}
use Rattle.pages.proofs.Streams.{streamed_step}
use Rattle.pages.proofs.stream.StreamPages.next.Goals as goal

pub returns-in-Ok-clause-leaves : goal.returns-in-Ok-clause-leaves
returns-in-Ok-clause-leaves c =
    let more : 0 < length c.args.self.now.rest.now = search rules in
    rw (streamed_step c.args.self.now.rest.now more) (search rules)
