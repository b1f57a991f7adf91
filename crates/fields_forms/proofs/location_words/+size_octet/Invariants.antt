use Rattle.fields_forms.proofs.location_words.+size_octet.Given as goal

abbrev pub decreases-size_octet : goal.decreases-size_octet
decreases-size_octet l = l.centimetres
