use Rattle.std.proofs.Common.{arith}
use Rattle.heap.specs.Heaps.{HeapedWithin}
use Rattle.heap.proofs.Heap.new.Goals as goal

pub invariant_of-result : goal.invariant_of-result
unfolding HeapedWithin
invariant_of-result g c = record { within = omega arith; heaped = λ p k d _ a b f. absurd (omega arith) }
