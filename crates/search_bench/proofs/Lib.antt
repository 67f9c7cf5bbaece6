mod SearchLaws
