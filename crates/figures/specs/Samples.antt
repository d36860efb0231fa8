-- Samples, and the two lines above those of a family (Prometheus, 'Text-based format', 0.0.4).
use Rattle.std.specs.Prelude.{ℕ, List, ◌++◌, codes}
use Rattle.std.specs.Fmt.{decimal}
use Rattle.figures.specs.Families.{name_of, help_of, kind_of, kind_name}
use Rattle.figures.specs.Labels.{document_result, identity_state, fault_name, direction_name, escaped}
use Rattle.figures.specs.declared.family.Family.{Family}
use Rattle.figures.specs.declared.family.Family.TheVariants as family
use Rattle.figures.specs.declared.sample.Counted.{Counted}
use Rattle.figures.specs.declared.sample.Counted.TheVariants as counted
use Rattle.figures.specs.declared.figures.SocketFigures.{SocketFigures}

-- the two lines above a family's samples
unfoldable pub head : Family → List ℕ
head f = codes "# HELP " ++ name_of f ++ codes " " ++ help_of f ++ codes "\n# TYPE " ++ name_of f ++ codes " " ++ kind_name (kind_of f) ++ codes "\n"

-- what ends each sample: its number
unfoldable pub number_end : ℕ → List ℕ
number_end n = codes " " ++ decimal n ++ codes "\n"

-- a sample with no label
unfoldable pub plain : Family → ℕ → List ℕ
plain f n = name_of f ++ number_end n

-- a family that is one number
unfoldable pub single : Family → ℕ → List ℕ
single f n = head f ++ plain f n

-- one label, with its key and its value, which stands within the quotes already, and the number
unfoldable pub label_end : List ℕ → List ℕ → ℕ → List ℕ
label_end key value n = codes "{" ++ key ++ codes "=\"" ++ value ++ codes "\"}" ++ number_end n

-- a sample with one label
unfoldable pub labelled : Family → List ℕ → List ℕ → ℕ → List ℕ
labelled f key value n = name_of f ++ label_end key value n

-- the family of what is counted, and the key and the word of its one label
unfoldable pub family_of : Counted → Family
family_of (counted.Document _) = family.Documents
family_of (counted.Identity _) = family.Identities
family_of (counted.Fault _) = family.ConnectionFaults
family_of (counted.Bytes _) = family.Bytes

unfoldable pub key_of : Counted → List ℕ
key_of (counted.Document _) = codes "result"
key_of (counted.Identity _) = codes "state"
key_of (counted.Fault _) = codes "cause"
key_of (counted.Bytes _) = codes "direction"

unfoldable pub word_of : Counted → List ℕ
word_of (counted.Document outcome) = document_result outcome
word_of (counted.Identity state) = identity_state state
word_of (counted.Fault cause) = fault_name cause
word_of (counted.Bytes direction) = direction_name direction

-- its sample
unfoldable pub sample : Counted → ℕ → List ℕ
sample c n = labelled (family_of c) (key_of c) (word_of c) n

-- a sample of a socket
unfoldable pub socket_line : Family → SocketFigures → ℕ → List ℕ
socket_line f s n = labelled f (codes "socket") (escaped s.path) n
