use Rattle.std.proofs.Common.{◌≡◌, true, false, [], ◌∷◌, ◌++◌, length, refl, ap, ◌∙◌, add-zero, rules}
use Rattle.values.specs.Values.{bytes}
use Rattle.sinks.specs.Offsets.{string, strings}
use Rattle.sinks.proofs.Marks.{strings_fits, strings_joined, strings_more}
use Rattle.sinks.proofs.binary.BinaryPushableRefSliceU8.push.Goals as goal

pub returns-then-not-has_space : goal.returns-then-not-has_space
returns-then-not-has_space c = record {
  answer =
      (let v = c.args.v.now in strings_fits c.args.self.now 1 (length v) (bytes v ∷ []) false refl (add-zero (length v)) c.if-not-has_space.ensures);
  items =
      (let v = c.args.v.now in strings_joined c.args.self.now 1 (length v) (bytes v ∷ []) _ false refl (add-zero (length v)) c.if-not-has_space.ensures refl);
  memory = search rules;
  kept = search rules;
}

pub returns : goal.returns
returns c = record {
  answer =
      (let v = c.args.v.now in strings_fits c.args.self.now 1 (length v) (bytes v ∷ []) true refl (add-zero (length v)) c.if-not-has_space.ensures);
  items =
      (let s = c.args.self.now in
      let v = c.args.v.now in
      let e = c.copy.ensures in
      let t = c.copy.new.self in
      let last = c.end_row.new.self in
      let items : strings last.rows last.offsets.now last.bytes.now ≡ strings s.rows s.offsets.now s.bytes.now ++ bytes v ∷ [] =
      c.end_row.ensures.items
      ∙ ap (λ r. strings r t.offsets.now t.bytes.now ++ string t.bytes.now t.used (length v) ∷ []) e.count.0
      ∙ ap (λ o. strings s.rows o.now t.bytes.now ++ string t.bytes.now t.used (length v) ∷ []) e.offsets
      ∙ ap (λ u. strings s.rows s.offsets.now t.bytes.now ++ string t.bytes.now u (length v) ∷ []) e.count.1
      ∙ strings_more s t.bytes.now v e.bytes in
      strings_joined s 1 (length v) (bytes v ∷ []) _ true refl (add-zero (length v)) c.if-not-has_space.ensures items);
  memory = search rules;
  kept = search rules;
}
