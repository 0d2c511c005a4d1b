use Rattle.std.proofs.Common.{◌≡◌, ◌≤◌, ◌*◌, ◌-◌, length, drop, map, take}
use Rattle.std.specs.List.{concat}
use Rattle.polled_http.proofs.window.show.Given as goal

abbrev pub invariant-loop-part : goal.invariant-loop-part
invariant-loop-part l = record {
  shown : l.room.items ≡ drop l.fn.place (concat (map (λ part. part.now) (take l.part-index l.parts)));
  skip : l.skip ≡ l.fn.place - length (concat (map (λ part. part.now) (take l.part-index l.parts)));
  small : length (concat (map (λ part. part.now) (take l.part-index l.parts))) ≤ l.part-index * 18446744073709551615;
}
