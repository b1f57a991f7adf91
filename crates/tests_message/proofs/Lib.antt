mod TypedReading
