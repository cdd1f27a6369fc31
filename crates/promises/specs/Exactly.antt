-- Two statements of which each follows from the other.

-- P exactly when Q
abbrev pub Exactly : Type 0 → Type 0 → Type 0
Exactly P Q = (P → Q) × (Q → P)
