-- Clauses behind clauses, as they are stored.
use mathlib.Core.Path.{◌≡◌, refl, sym, ap}
use Prim.Native.Nat.{◌+◌}
use mathlib.Core.List.{◌++◌, append_assoc, append-nil}
use native.Mathlib.Omega.{arith}
use lib.ListN.{length, length-append}
use Rattle.rules.specs.Bytes.{part}
use Rattle.rules.specs.Query.{Kind, Query, Clauses, none, clause}
use Rattle.rules.specs.Stored.{kind_tag, encode, encodes, Valid, Valids}
use Rattle.rules.proofs.Rewriting.Walk.{join, snoc}

pub encodes_snoc : (a : Clauses) (k : Kind) (q : Query) → encodes (snoc a k q) ≡ encodes a ++ part (kind_tag k) (encode q)
unfolding encodes
encodes_snoc none k q = append-nil _
encodes_snoc (clause j p a) k q = rw (encodes_snoc a k q) (sym (append_assoc (part (kind_tag j) (encode p)) (encodes a) (part (kind_tag k) (encode q))))

pub join_snoc : (a : Clauses) (k : Kind) (q : Query) (b : Clauses) → join (snoc a k q) b ≡ join a (clause k q b)
join_snoc none k q b = refl
join_snoc (clause j p a) k q b = ap (clause j p) (join_snoc a k q b)

pub valids_snoc : (a : Clauses) (k : Kind) (q : Query) → Valids a → Valid q → Valids (snoc a k q)
unfolding Valids
valids_snoc none k q v w = (w, tt)
valids_snoc (clause j p a) k q v w = (v.0, valids_snoc a k q v.1 w)

pub length_snoc : (a : Clauses) (k : Kind) (q : Query) → length (encodes (snoc a k q)) ≡ length (encodes a) + 3 + length (encode q)
length_snoc a k q = omega (arith, ap length (encodes_snoc a k q), length-append (encodes a) (part (kind_tag k) (encode q)))
