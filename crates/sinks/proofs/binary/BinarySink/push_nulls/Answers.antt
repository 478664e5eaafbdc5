use Rattle.std.proofs.Common.{true, false, replicate, refl, rules}
use lib.ListN.{length-replicate}
use Rattle.sinks.specs.Offsets.{no_bytes}
use Rattle.sinks.proofs.Rows.{weights_blank}
use Rattle.sinks.proofs.Marks.{strings_fits, strings_joined}
use Rattle.sinks.proofs.binary.BinarySink.push_nulls.Goals as goal

pub returns-then-not-has_space : goal.returns-then-not-has_space
returns-then-not-has_space c = record {
  answer =
      (let n = c.args.n in strings_fits c.args.self.now n 0 (replicate n no_bytes) false (length-replicate n no_bytes) (weights_blank n) c.if-not-has_space.ensures);
  items =
      (let n = c.args.n in strings_joined c.args.self.now n 0 (replicate n no_bytes) _ false (length-replicate n no_bytes) (weights_blank n) c.if-not-has_space.ensures refl);
  memory = search rules;
  kept = search rules;
}

pub returns : goal.returns
returns c = record {
  answer =
      (let n = c.args.n in strings_fits c.args.self.now n 0 (replicate n no_bytes) true (length-replicate n no_bytes) (weights_blank n) c.if-not-has_space.ensures);
  items =
      (let n = c.args.n in strings_joined c.args.self.now n 0 (replicate n no_bytes) _ true (length-replicate n no_bytes) (weights_blank n) c.if-not-has_space.ensures c.end_rows.ensures.items);
  memory = search rules;
  kept = search rules;
}
